use Rattle.std.proofs.Common.{◌≡◌, ℕ, ◌≤◌, ◌+◌, ◌-◌, List, length, take, drop, sym, subst, arith, Option, take-add, length-drop}
use Rattle.std.proofs.KnownBytes.{Appends-trans}
use Rattle.std.proofs.lemmas.List.{take_all}
use Rattle.std.specs.Io.KnownBytes.{Appends}
use Rattle.base_output.proofs.whole.write_whole.Goals as goal

-- what is left is offered whole
rest_whole : (bytes : List ℕ) (at : ℕ) → take (length bytes - at) (drop at bytes) ≡ drop at bytes
rest_whole bytes at = take_all (length bytes - at) (drop at bytes) (omega (arith, length-drop at bytes))

-- a write takes a front of what is left
write_more : (a b c : Option (List ℕ)) (bytes : List ℕ) (at n : ℕ) → Appends a b (take at bytes)
    → Appends b c (take n (take (length bytes - at) (drop at bytes))) → Appends a c (take (at + n) bytes)
write_more a b c bytes at n h k =
    subst (Appends a c) (sym (take-add at n bytes))
    (Appends-trans a b c (take at bytes) (take n (drop at bytes)) h
    (subst (λ (w : List ℕ). Appends b c (take n w)) (rest_whole bytes at) k))

write_within : (bytes : List ℕ) (at n : ℕ) → at ≤ length bytes → n ≤ length (take (length bytes - at) (drop at bytes))
    → at + n ≤ length bytes
write_within bytes at n h k = omega (arith, subst (λ (w : List ℕ). n ≤ length w) (rest_whole bytes at) k, length-drop at bytes)

pub loop-written-preserved : goal.loop-written-preserved
loop-written-preserved g c = record {
  within = write_within c.args.bytes.now c.loop-written.written c.in-Ok.count c.loop-written.invariant.within
      c.in-Ok.ensures.bound;
  appended = write_more (g.W.Write.contents c.args.writer.now) (g.W.Write.contents c.loop-written.writer)
      (g.W.Write.contents c.write.new.self) c.args.bytes.now c.loop-written.written c.in-Ok.count
      c.loop-written.invariant.appended c.in-Ok.ensures.bytes;
}
