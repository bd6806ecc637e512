-- Texts that are appended one after another, where the memory may end.
use Rattle.std.proofs.Common.{arith, ◌∷◌, ◌^◌}
use Rattle.std.specs.Fmt.{decimal}
use Rattle.std.proofs.lemmas.Fmt.{IsAscii-decimal}
use Rattle.std.proofs.lemmas.Str.Ascii.{IsAscii-cons}
use Rattle.std.proofs.Common.{◌≡◌, ℕ, suc, ◌+◌, ◌<◌, ◌≤◌, true, false, List, [], ◌++◌, length, get_or, take, drop, flat_map, Result, Ok, Err, sym, ap, ◌∙◌, subst}
use Rattle.std.proofs.lemmas.Bool.{false≢true, eqb-true}
use Rattle.std.specs.Bool.{◌==◌}
use Rattle.std.specs.Prelude.{OnOk, OnErr, IsErr, is_ok, is_err, if◌then◌else◌, IsUtf8}
use Rattle.std.proofs.lemmas.Result.{IfOk-from_err, IfOk-equal}
use Rattle.std.proofs.lemmas.Str.{IsUtf8-append, IsUtf8-from_ascii}
use Rattle.std.specs.Io.{StartsWith}
use Rattle.std.proofs.lemmas.List.{append_assoc, append-nil, at_drop_all, at_drop_more}
use Rattle.std.proofs.Transfers.{starts_with_of_append, starts_with_trans}

-- a text and one more
pub and_then : (a x y : List ℕ) {b c : List ℕ} → b ≡ a ++ x → c ≡ b ++ y → c ≡ a ++ (x ++ y)
and_then a x y e f = f ∙ ap (λ w. w ++ y) e ∙ append_assoc a x y

-- the text of the next item of a list, and of those that are left
pub next : {X : Type 0} (f : X → List ℕ) (xs : List X) (i : ℕ) (d x : X) (a b c : List ℕ) → i < length xs → get_or xs i d ≡ x → a ++ flat_map f (drop i xs) ≡ b → c ≡ a ++ f x → c ++ flat_map f (drop (i + 1) xs) ≡ b
next f xs i d x a b c lt is h e =
    let rest = flat_map f (drop (i + 1) xs) in
    ap (λ w. w ++ rest) e ∙ append_assoc a (f x) rest
    ∙ ap (λ w. a ++ w) (ap (λ y. f y ++ rest) (sym is) ∙ sym (at_drop_more (flat_map f) xs i d lt)) ∙ h

-- all items of a list are appended
pub all_done : {X : Type 0} (f : X → List ℕ) (xs : List X) (i : ℕ) (a b : List ℕ) → length xs ≤ i → b ++ flat_map f (drop i xs) ≡ a → b ≡ a
all_done f xs i a b end h = sym (append-nil b) ∙ ap (λ w. b ++ w) (sym (at_drop_all (flat_map f) xs i end)) ∙ h

-- a number after a space is UTF-8
pub spaced_utf8 : (n : ℕ) → n < 2 ^ 64 → IsUtf8 (32 ∷ decimal n)
spaced_utf8 n h = IsUtf8-from_ascii (32 ∷ decimal n) (IsAscii-cons 32 (decimal n) (omega arith) (IsAscii-decimal n h))

-- the front stays
pub front_more : (a b c x : List ℕ) → StartsWith b a → c ≡ b ++ x → StartsWith c a
front_more a b c x h e = starts_with_trans c b a (starts_with_of_append c b x e) h

-- a list with an item has not the length 0
pub not_empty : (k : ℕ) → true ≡ (suc k == 0) → ⊥
not_empty k e = omega (arith, eqb-true (suc k) 0 (sym e))

-- nothing is left to append
pub none_left : {X : Type 0} (f : X → List ℕ) (xs : List X) (a b : List ℕ) → length xs < 1 → a ++ flat_map f xs ≡ b → a ≡ b
none_left f [] a b lt e = sym (append-nil a) ∙ e
none_left f (x ∷ xs) a b lt e = absurd (omega (arith, lt))

-- nothing was appended
pub same_front : (a b : List ℕ) → b ≡ a → StartsWith b a
same_front a b e = starts_with_of_append b a [] (e ∙ sym (append-nil a))

pub unappended : {T E : Type 0} (r : Result T E) (a b : List ℕ) → OnErr r (b ≡ a) → OnErr r (StartsWith b a)
unappended (Ok done) a b h = tt
unappended (Err fault) a b h = same_front a b h

-- a text was appended, and of the next one a front
pub front_within : (a x b c : List ℕ) → b ≡ a ++ x → StartsWith c b → StartsWith c a
front_within a x b c e f = starts_with_trans c b a f (starts_with_of_append b a x e)

-- one text is appended, all or nothing
abbrev pub AllAppended : {T E : Type 0} → Result T E → List ℕ → List ℕ → List ℕ → Type 0
AllAppended r a x b = record { ok : OnOk r (b ≡ a ++ x); err : OnErr r (b ≡ a); utf8 : IsUtf8 a → IsUtf8 b }

-- texts are appended, where the memory may end within them
abbrev pub Appended : {T E : Type 0} → Result T E → List ℕ → List ℕ → List ℕ → Type 0
Appended r a x b = record { ok : OnOk r (b ≡ a ++ x); err : OnErr r (StartsWith b a); utf8 : IsUtf8 a → IsUtf8 b }

-- the same, where nothing is said of UTF-8
abbrev pub Written : {T E : Type 0} → Result T E → List ℕ → List ℕ → List ℕ → Type 0
Written r a x b = record { ok : OnOk r (b ≡ a ++ x); err : OnErr r (StartsWith b a) }

module _ {T E : Type 0} where
  -- what stands after an error, whatever it is
  pub on_any_err : {P : Type 0} (r : Result T E) → P → OnErr r P
  on_any_err (Ok v) p = tt
  on_any_err (Err v) p = p

  -- the memory ended
  pub stopped : (r : Result T E) (a x b : List ℕ) → IsErr r → StartsWith b a → (IsUtf8 a → IsUtf8 b) → Appended r a x b
  stopped r a x b is front utf8 = record {
    ok = IfOk-from_err r (λ _. b ≡ a ++ x) is;
    err = on_any_err r front;
    utf8 = utf8;
  }

  -- the only text
  pub alone : (r : Result T E) (a x b : List ℕ) → AllAppended r a x b → Appended r a x b
  alone (Ok v) a x b h = record { ok = h.ok; err = tt; utf8 = h.utf8 }
  alone (Err v) a x b h = record { ok = tt; err = same_front a b h.err; utf8 = h.utf8 }

  -- the last text, where there was memory
  pub last_ok : (r : Result T E) (a x y b c : List ℕ) → b ≡ a ++ x → OnOk r (c ≡ b ++ y) → OnOk r (c ≡ a ++ (x ++ y))
  last_ok (Ok v) a x y b c e f = and_then a x y e f
  last_ok (Err v) a x y b c e f = tt

  -- the last of three
  pub three_ok : (r : Result T E) (a x y z b c d : List ℕ) → b ≡ a ++ x → c ≡ b ++ y → OnOk r (d ≡ c ++ z) → OnOk r (d ≡ a ++ (x ++ (y ++ z)))
  three_ok (Ok v) a x y z b c d e f g =
      and_then a (x ++ y) z (and_then a x y e f) g ∙ ap (λ w. a ++ w) (append_assoc x y z)
  three_ok (Err v) a x y z b c d e f g = tt

  -- the last text, where the memory ended before it
  pub last_err : (r : Result T E) (a x b c : List ℕ) → b ≡ a ++ x → OnErr r (c ≡ b) → OnErr r (StartsWith c a)
  last_err (Ok v) a x b c e f = tt
  last_err (Err v) a x b c e f = starts_with_of_append c a x (f ∙ e)

  -- where it ended within it
  pub within_err : (r : Result T E) (a x b c : List ℕ) → b ≡ a ++ x → OnErr r (StartsWith c b) → OnErr r (StartsWith c a)
  within_err (Ok v) a x b c e f = tt
  within_err (Err v) a x b c e f = starts_with_trans c b a f (starts_with_of_append b a x e)

  -- a text after UTF-8, or nothing
  pub utf8_more : (r : Result T E) (a x b : List ℕ) → b ≡ (if is_ok r then a ++ x else a) → IsUtf8 x → IsUtf8 a → IsUtf8 b
  utf8_more (Ok v) a x b e of_x of_a = subst IsUtf8 (sym e) (IsUtf8-append a x of_a of_x)
  utf8_more (Err v) a x b e of_x of_a = subst IsUtf8 (sym e) of_a

  -- nothing after the last of two
  pub nothing_after : (r : Result T E) (a x y b : List ℕ) → OnOk r (b ≡ a ++ (x ++ (y ++ []))) → OnOk r (b ≡ a ++ (x ++ y))
  nothing_after (Ok v) a x y b e = e ∙ ap (λ w. a ++ (x ++ w)) (append-nil y)
  nothing_after (Err v) a x y b e = tt

  -- the last texts after a first one
  pub then_appended : (r : Result T E) (a x b y c : List ℕ) → b ≡ a ++ x → (IsUtf8 a → IsUtf8 b) → Appended r b y c → Appended r a (x ++ y) c
  then_appended r a x b y c e utf8 h = record {
    ok = last_ok r a x y b c e h.ok;
    err = within_err r a x b c e h.err;
    utf8 = λ of_a. h.utf8 (utf8 of_a);
  }

  -- the last text after two
  pub then_third : (r : Result T E) (a x b y c z d : List ℕ) → b ≡ a ++ x → c ≡ b ++ y → (IsUtf8 a → IsUtf8 c) → AllAppended r c z d → Appended r a (x ++ (y ++ z)) d
  then_third r a x b y c z d e f utf8 h = record {
    ok = three_ok r a x y z b c d e f h.ok;
    err = last_err r a (x ++ y) c d (and_then a x y e f) h.err;
    utf8 = λ of_a. h.utf8 (utf8 of_a);
  }

  -- the memory ended, where nothing is said of UTF-8
  pub stopped_within : (r : Result T E) (a x b : List ℕ) → IsErr r → StartsWith b a → Written r a x b
  stopped_within r a x b is front = record { ok = IfOk-from_err r (λ _. b ≡ a ++ x) is; err = on_any_err r front }

  -- the last texts after a first one, where nothing is said of UTF-8
  pub then_written : (r : Result T E) (a x b y c : List ℕ) → b ≡ a ++ x → OnOk r (c ≡ b ++ y) → OnErr r (StartsWith c b) → Written r a (x ++ y) c
  then_written r a x b y c e ok err = record { ok = last_ok r a x y b c e ok; err = within_err r a x b c e err }

  -- the same texts, told otherwise
  pub told_as : (r : Result T E) (a x y b : List ℕ) → x ≡ y → Written r a x b → Written r a y b
  told_as r a x y b e h = record { ok = IfOk-equal r b (a ++ x) (a ++ y) h.ok (ap (λ w. a ++ w) e); err = h.err }

  -- two texts, where the last of three is empty
  pub without_third : (r : Result T E) (a x y b : List ℕ) → Appended r a (x ++ (y ++ [])) b → Appended r a (x ++ y) b
  without_third r a x y b h = record { ok = nothing_after r a x y b h.ok; err = h.err; utf8 = h.utf8 }

  -- what was appended is cut off after an error
  pub cut_back : (r : Result T E) (a x b c : List ℕ) (n : ℕ) → true ≡ is_err r → n ≡ length a → c ≡ take n b → Appended r a x b → AllAppended r a x c
  cut_back (Ok v) a x b c n is at e h = absurd (false≢true (sym is))
  cut_back (Err v) a x b c n is at e h =
      let same : c ≡ a = e ∙ ap (λ k. take k b) at ∙ h.err in
      record { ok = tt; err = same; utf8 = λ of_a. subst IsUtf8 (sym same) of_a }

  -- it stays where there was none
  pub kept : (r : Result T E) (a x b : List ℕ) → false ≡ is_err r → Appended r a x b → AllAppended r a x b
  kept (Ok v) a x b is h = record { ok = h.ok; err = tt; utf8 = h.utf8 }
  kept (Err v) a x b is h = absurd (false≢true is)
