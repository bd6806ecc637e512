-- The texts of a node are read as the node.
use Rattle.table_schema.proofs.Imports.{◌≡◌, ℕ, ◌<◌, lit<, arith, Bool, true, false, ◌||◌, ◌&&◌, eqb, List, [], ◌∷◌, ◌++◌, Option, Some, None, is_none, is_some, if◌then◌else◌, refl, sym, ap, subst, ◌∙◌, true≢false, list_all, list_any, AllByRecursion, IsUtf8, eqb-true, and_parts, nat_tests, All-from_recursion, IsName, name_fault, in_name, IsVersion, cut, IsEpoch, IsRevision, in_upstream, in_revision, epoch_text, revision_text, written, Node, IsNode, node, is_slash, node_of, node_of_text, node_at, all_append}
use Rattle.std.proofs.lemmas.Str.{IsUtf8-from_ascii}
use Rattle.std.proofs.lemmas.Str.Ascii.{IsAscii-from_all}
use Rattle.std.proofs.lemmas.List.Folds.{list_any-append}
use Rattle.debver.specs.Characters.{is_digit}
use Rattle.debver.specs.Faults.{text_fault}
use Rattle.version_nodes.proofs.ReadLemmas.{nodes_exactly}

-- a text of which each byte passes a test that a slash doesn't pass has no slash
without_slash : (p : ℕ → Bool) → p 47 ≡ false → (s : List ℕ) → list_all p s ≡ true → list_any is_slash s ≡ false
without_slash p off [] h = refl
without_slash p off (c ∷ s) h = go (p c) (eqb c 47) refl refl h (without_slash p off s)
  where
    go : (a b : Bool) → p c ≡ a → eqb c 47 ≡ b → (a && list_all p s) ≡ true → (list_all p s ≡ true → list_any is_slash s ≡ false) → (b || list_any is_slash s) ≡ false
    go false b is slash h more = absurd (true≢false (sym h))
    go true true is slash h more = absurd (true≢false (sym is ∙ ap p (eqb-true c 47 slash) ∙ off))
    go true false is slash h more = more h

neither : (a b : Bool) → a ≡ false → b ≡ false → (a || b) ≡ false
neither a b off off' = rw (off, off') refl

upstream_slash : (epoch : Bool) → in_upstream epoch 47 ≡ false
upstream_slash true = refl
upstream_slash false = refl

in_epoch : (e : Option (List ℕ)) → IsEpoch e → list_any is_slash (epoch_text e) ≡ false
in_epoch None h = refl
in_epoch (Some e) h = list_any-append is_slash e (58 ∷ []) ∙ neither _ false (without_slash is_digit refl e h.1) refl

in_end : (r : Option (List ℕ)) → IsRevision r → list_any is_slash (revision_text r) ≡ false
in_end None h = refl
in_end (Some r) h = without_slash in_revision refl r h.1

-- a version has no slash
no_slash : (text : List ℕ) → IsVersion text → list_any is_slash text ≡ false
no_slash text is =
    let v = cut text in
    ap (list_any is_slash) is.cut.whole
    ∙ list_any-append is_slash (epoch_text v.epoch) (v.upstream ++ revision_text v.revision)
    ∙ neither _ _ (in_epoch v.epoch is.epoch)
    (list_any-append is_slash v.upstream (revision_text v.revision) ∙ neither _ _ (without_slash (in_upstream (is_some v.epoch)) (upstream_slash (is_some v.epoch)) v.upstream is.upstream.1) (in_end v.revision is.revision))

named : (b c : Bool) (n m : Node) → (if b && c then Some n else None) ≡ Some m → b ≡ true
named true c n m h = refl
named false c n m h = absurd (let e = h in cc)

-- the node of a name and a version, whichever way they are read
pub reads_back : (v : Node) → IsNode v → node_at v.source v.version ≡ Some v
reads_back v is =
    let there = (nodes_exactly v.source v.version v).1 (refl, is.source, is.version) in
    let fine = named (is_none (name_fault v.source)) (is_none (text_fault v.version)) (node v.source v.version) v there in
    ap (λ b. if b then (if list_any is_slash v.version then node_of_text v.version else node_of v.source v.version) else None) fine
    ∙ ap (λ b. if b then node_of_text v.version else node_of v.source v.version) (no_slash v.version is.version) ∙ there

-- ---- the texts are UTF-8

digit_low : (c : ℕ) → is_digit c ≡ true → c < 128
digit_low c h = grind (arith, nat_tests, h)

name_low : (c : ℕ) → in_name c ≡ true → c < 128
name_low c h = grind (arith, nat_tests, h)

revision_low : (c : ℕ) → in_revision c ≡ true → c < 128
revision_low c h = grind (arith, nat_tests, h)

upstream_low : (epoch : Bool) (c : ℕ) → in_upstream epoch c ≡ true → c < 128
upstream_low true c h = grind (arith, nat_tests, h)
upstream_low false c h = grind (arith, nat_tests, h)

all_low : (p : ℕ → Bool) → ((c : ℕ) → p c ≡ true → c < 128) → (s : List ℕ) → list_all p s ≡ true → AllByRecursion (λ c. c < 128) s
all_low p low [] h = tt
all_low p low (c ∷ s) h = let h' = and_parts (p c) (list_all p s) h in (low c h'.0, all_low p low s h'.1)

abbrev AreLow : List ℕ → Type 0
AreLow s = AllByRecursion (λ c. c < 128) s

epoch_low : (e : Option (List ℕ)) → IsEpoch e → AreLow (epoch_text e)
epoch_low None h = tt
epoch_low (Some e) h = all_append (λ c. c < 128) e (58 ∷ []) (all_low is_digit digit_low e h.1) (lit< tt, tt)

end_low : (r : Option (List ℕ)) → IsRevision r → AreLow (revision_text r)
end_low None h = tt
end_low (Some r) h = (lit< tt, all_low in_revision revision_low r h.1)

utf8 : (s : List ℕ) → AreLow s → IsUtf8 s
utf8 s low = IsUtf8-from_ascii s (IsAscii-from_all s (All-from_recursion (λ c. c < 128) s low))

pub name_utf8 : (text : List ℕ) → IsName text → IsUtf8 text
name_utf8 text is = utf8 text (all_low in_name name_low text is.bytes)

pub version_utf8 : (text : List ℕ) → IsVersion text → IsUtf8 text
version_utf8 text is =
    let v = cut text in
    subst IsUtf8 (sym is.cut.whole) (utf8 (written v) (all_append (λ c. c < 128) (epoch_text v.epoch) (v.upstream ++ revision_text v.revision) (epoch_low v.epoch is.epoch)
    (all_append (λ c. c < 128) v.upstream (revision_text v.revision) (all_low (in_upstream (is_some v.epoch)) (upstream_low (is_some v.epoch)) v.upstream is.upstream.1) (end_low v.revision is.revision))))
