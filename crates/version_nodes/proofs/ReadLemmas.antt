-- Where a text gives a node, and which.
use Rattle.std.proofs.Common.{◌≡◌, ◌↔◌, ℕ, ◌+◌, ◌<◌, Bool, true, false, not, ◌||◌, ◌&&◌, List, [], ◌∷◌, length, cond, refl, ap, sym}
use Rattle.std.proofs.Common.{◌∙◌, inl, inr, arith, nat_lt, lit<, Bor}
use Rattle.std.specs.Prelude.{Option, Some, None, is_none, is_some, if◌then◌else◌}
use Rattle.std.specs.Bool.{then_some}
use Rattle.std.specs.List.{list_any, before_first, after_first, position_or_len}
use Rattle.std.specs.Option.{option_or}
use Rattle.std.proofs.lemmas.Bool.{cases_Bool, and_parts, ltb-false, le-ltb}
use Rattle.std.proofs.lemmas.Str.Pattern.{IsSplitOnceResult, split_once_first}
use Rattle.debver.specs.Names.{IsName, name_fault, wrong_in_name}
use Rattle.debver.specs.Cut.{IsVersion, cut}
use Rattle.debver.specs.Faults.{text_fault}
use Rattle.debver.specs.declared.name.NameFault.{NameFault}
use Rattle.debver.specs.declared.name.NameFault.TheVariants.{BadByte}
use Rattle.debver.proofs.Faultless.{unmapped}
use Rattle.debver.proofs.NameLaws.{name_is, no_wrong_byte}
use Rattle.debver.proofs.CutLaws.{parts_exactly}
use Rattle.version_nodes.specs.Nodes.{Node, node, is_slash, node_of, node_of_text, node_at}

-- a text with a slash gives the node of what precedes the first one and of what follows it
pub node_at_slash : (text s v : List ℕ) → list_any is_slash text ≡ true → s ≡ before_first is_slash text
    → v ≡ after_first is_slash text → node_of_text text ≡ node_of s v
node_at_slash text s v h e f =
    ap (λ b. if b then node_of (before_first is_slash text) (after_first is_slash text) else None) h
    ∙ ap (λ x. node_of x (after_first is_slash text)) (sym e) ∙ ap (node_of s) (sym f)

-- a word with a slash means the node that it says
pub word_with_slash : (name word s v : List ℕ) → is_none (name_fault name) ≡ true → list_any is_slash word ≡ true
    → s ≡ before_first is_slash word → v ≡ after_first is_slash word → node_at name word ≡ node_of s v
word_with_slash name word s v named h e f =
    ap (λ b. if b then (if list_any is_slash word then node_of_text word else node_of name word) else None) named
    ∙ ap (λ b. if b then node_of_text word else node_of name word) h ∙ node_at_slash word s v h e f

-- a word without one means the node of the package
pub word_without_slash : (name word : List ℕ) → list_any is_slash word ≡ false → node_at name word ≡ node_of name word
word_without_slash name word h =
    ap (λ b. if is_none (name_fault name) then (if b then node_of_text word else node_of name word) else None) h
    ∙ named (is_none (name_fault name))
  where
    named : (b : Bool) → (if b then (if b && is_none (text_fault word) then Some (node name word) else None) else None)
        ≡ (if b && is_none (text_fault word) then Some (node name word) else None)
    named true = refl
    named false = refl

any_within : (p : ℕ → Bool) (xs : List ℕ) → position_or_len p xs < length xs → list_any p xs ≡ true
any_within p [] h = absurd (omega arith)
any_within p (x ∷ xs) h =
    elim (cases_Bool (p x)) [
      | inl e ↦ ap (λ b. b || list_any p xs) e
      | inr e ↦
          let n : position_or_len p (x ∷ xs) ≡ 1 + position_or_len p xs = ap (λ b. cond (not b) (1 + position_or_len p xs) 0) e in
          ap (λ b. b || list_any p xs) e ∙ any_within p xs (omega arith)
    ]

none_within : (p : ℕ → Bool) (xs : List ℕ) → position_or_len p xs ≡ length xs → list_any p xs ≡ false
none_within p [] h = refl
none_within p (x ∷ xs) h =
    elim (cases_Bool (p x)) [
      | inl e ↦
          let n : position_or_len p (x ∷ xs) ≡ 0 = ap (λ b. cond (not b) (1 + position_or_len p xs) 0) e in
          absurd (omega arith)
      | inr e ↦
          let n : position_or_len p (x ∷ xs) ≡ 1 + position_or_len p xs = ap (λ b. cond (not b) (1 + position_or_len p xs) 0) e in
          ap (λ b. b || list_any p xs) e ∙ none_within p xs (omega arith)
    ]

-- a text is cut where it has a slash
pub cut_at_slash : (text : List ℕ) (r : Option (Bor (List ℕ) × Bor (List ℕ))) → IsSplitOnceResult 47 text r
    → is_some r ≡ list_any is_slash text
cut_at_slash text None h = sym (none_within is_slash text (split_once_first 47 text None h (lit< tt)))
cut_at_slash text (Some x) h = sym (any_within is_slash text ((split_once_first 47 text (Some x) h (lit< tt)).0))

none_is : {A : Type 0} (o : Option A) → is_none o ≡ true → o ≡ None
none_is None h = refl
none_is (Some x) h = absurd (cc)

neither : (a b : Option NameFault) → option_or a b ≡ None → (a ≡ None) × (b ≡ None)
neither None b h = (refl, h)
neither (Some f) b h = absurd (cc)

untested : (b : Bool) (f : NameFault) → then_some b f ≡ None → b ≡ false
untested true f h = absurd (cc)
untested false f h = refl

name_right : (s : List ℕ) → name_fault s ≡ None → IsName s
name_right s h =
    let a = neither _ _ h in
    let b = neither _ _ a.1 in
    name_is s (ltb-false (length s) 2 (untested _ _ a.0)) (unmapped BadByte (wrong_in_name s) b.0)
    (ltb-false 100 (length s) (untested _ _ b.1))

name_faultless : (s : List ℕ) → IsName s → name_fault s ≡ None
name_faultless s name =
    let long : nat_lt (length s) 2 ≡ false = le-ltb (length s) 2 name.long in
    let short : nat_lt 100 (length s) ≡ false = le-ltb 100 (length s) name.short in
    rw (long, no_wrong_byte s name, short) refl

some_here : (b : Bool) (m n : Node) → (if b then Some m else None) ≡ Some n → (b ≡ true) × (n ≡ m)
some_here true m n h = (refl, cc)
some_here false m n h = absurd (cc)

-- two texts give a node exactly where the one is a package name and the other a version
pub nodes_exactly : (s v : List ℕ) (n : Node) → (node_of s v ≡ Some n) ↔ ((n ≡ node s v) × IsName s × IsVersion v)
nodes_exactly s v n = (there, here)
  where
    there : node_of s v ≡ Some n → (n ≡ node s v) × IsName s × IsVersion v
    there h =
        let w = some_here _ (node s v) n h in
        let both = and_parts (is_none (name_fault s)) (is_none (text_fault v)) w.0 in
        (w.1, name_right s (none_is _ both.0), (parts_exactly v (cut v)).1 (refl, none_is _ both.1))

    here : (n ≡ node s v) × IsName s × IsVersion v → node_of s v ≡ Some n
    here h =
        let version = ((parts_exactly v (cut v)).0 h.2).1 in
        rw (name_faultless s h.1, version, h.0) refl
