use Rattle.std.proofs.Common.{◌≡◌, map, string_bytes, take}
use Rattle.http_requests.proofs.bodies.keep_words.Given as goal

abbrev pub invariant-loop-word : goal.invariant-loop-word
invariant-loop-word l = map string_bytes l.kept.items ≡ map (λ s. s.now) (take l.word-index l.words)
