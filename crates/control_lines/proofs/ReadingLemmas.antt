-- Bytes read, and the lines found in them.
use Rattle.std.proofs.Common.{◌≡◌, ℕ, ◌+◌, ◌<◌, ◌≤◌, ◌==◌, List, [], ◌∷◌, ◌++◌, length, take, drop, get_or, Option, Some, None}
use Rattle.std.proofs.Common.{false, sym, ◌∙◌, ap, subst, arith, refl, append_assoc, append-nil}
use Rattle.std.specs.Str.{IsUtf8}
use Rattle.std.specs.Prelude.{Result, Ok, Err, IfOk, IfErr, OnOk}
use Rattle.std.specs.List.{list_any, onto_first, slice_split}
use Rattle.std.proofs.lemmas.Bool.{eqb-true, or_parts}
use Rattle.std.proofs.lemmas.Grind.{common_steps}
use Rattle.std.proofs.lemmas.List.{drop_more, get_or-take, length-take, take-append-drop, take_all}
use Rattle.std.proofs.lemmas.List.Splits.{slice_split-cons_no}
use Rattle.memchr.specs.Find.{IsFirstByte, is_byte}
use Rattle.control_lines.specs.Lines.{is_feed, without_empty_last, without_return, raw_lines}
use Rattle.control_lines.specs.Reading.{Known, Left, GivesPiece, IsLineFault}
use Rattle.control_lines.specs.Pieces.{GivesBytes, GivesRaw, IsFirstFeed, IsLengthFault}
use Rattle.control_lines.specs.Pieces.{IsTextFault}
use Rattle.control_lines.specs.declared.fault.ScriptFault.{ScriptFault}
use Rattle.control_lines.specs.declared.fault.ScriptFault.TheVariants.{NotUtf8, LineTooLong, Memory}
use Rattle.control_lines.specs.declared.source.Piece.{Piece}
use Rattle.control_lines.specs.declared.source.Piece.TheVariants as pieces
use Rattle.control_lines.specs.declared.source.RawLine.{RawLine}
use Rattle.control_lines.proofs.LineLemmas.{no_feed, raw_lines-first, raw_lines-last}

left_then : {a b c : Option (List ℕ)} {P Q R : List ℕ → List ℕ → Type 0} → Left a b P → Left b c Q
    → ((xs ys zs : List ℕ) → P xs ys → Q ys zs → R xs zs) → Left a c R
left_then p q f = record { known = λ xs e. let u = p.known xs e in let v = q.known u.0 u.1 in (v.0, v.1, f xs u.0 v.0 u.2 v.2) }

-- where a search found a line feed
pub feed_found : (bytes : List ℕ) (found : Option ℕ) → IsFirstByte (is_byte 10) bytes found → IsFirstFeed bytes found
feed_found bytes None h = no_feed bytes (λ i l e. h i (omega arith) l (ap (λ (n : ℕ). n == 10) e))
feed_found bytes (Some at) h = (
  no_feed (take at bytes) (λ i l e.
      let lt : i < at = omega (arith, l, length-take at bytes) in
      h.0.before i (omega arith) lt (ap (λ (n : ℕ). n == 10) (sym (get_or-take at bytes i 0 lt) ∙ e))),
  sym (take-append-drop at bytes) ∙ ap (λ (w : List ℕ). take at bytes ++ w)
      (drop_more bytes at 0 h.0.high ∙ ap (λ (n : ℕ). n ∷ drop (at + 1) bytes) (eqb-true (get_or bytes at 0) 10 h.1)),
)

free_together : (front back : List ℕ) → list_any is_feed front ≡ false → list_any is_feed back ≡ false
    → list_any is_feed (front ++ back) ≡ false
free_together front back f g = grind (arith, common_steps)

-- a line feed ends the line
first_line : (line piece rest : List ℕ) (at : ℕ) → list_any is_feed line ≡ false → IsFirstFeed piece (Some at)
    → raw_lines (line ++ (piece ++ rest)) ≡ (line ++ take at piece) ∷ raw_lines (drop (at + 1) piece ++ rest)
first_line line piece rest at free first =
    let front = take at piece in
    let back = drop (at + 1) piece in
    ap raw_lines (ap (λ (w : List ℕ). line ++ (w ++ rest)) first.1
    ∙ (ap (λ (w : List ℕ). line ++ w) (append_assoc front (10 ∷ back) rest)
    ∙ sym (append_assoc line front (10 ∷ (back ++ rest)))))
    ∙ raw_lines-first (line ++ front) (back ++ rest) (free_together line front free first.0)

pub line_ended : {a b c : Option (List ℕ)} (s line piece longer left : List ℕ) (at : ℕ) → list_any is_feed line ≡ false
    → IsFirstFeed piece (Some at)
    → longer ≡ line ++ take at piece → left ≡ drop (at + 1) piece → length longer ≤ 65536
    → Left a b (λ xs ys. s ++ xs ≡ line ++ ys) → Left b c (GivesBytes piece)
    → Left a c (λ xs ys. (raw_lines (s ++ xs) ≡ longer ∷ raw_lines (left ++ ys)) × (length longer ≤ 65536))
line_ended s line piece longer left at free first whole after short p q = left_then p q
    (λ xs ys zs e f. (
      rw (whole, after)
          (ap raw_lines (e ∙ ap (λ (w : List ℕ). line ++ w) f.0) ∙ first_line line piece zs at free first),
      short,
    ))

empty : (xs : List ℕ) → length xs ≡ 0 → xs ≡ []
empty [] e = refl
empty (x ∷ xs) e = absurd (omega (arith, e))

-- the end comes after the last line feed
pub last_ended : {a b c : Option (List ℕ)} (s line piece : List ℕ) → list_any is_feed line ≡ false → 0 < length line
    → length line ≤ 65536 → length piece ≡ 0
    → Left a b (λ xs ys. s ++ xs ≡ line ++ ys) → Left b c (GivesBytes piece)
    → Left a c (λ xs ys. (raw_lines (s ++ xs) ≡ line ∷ []) × (length line ≤ 65536) × (piece ++ ys ≡ []))
last_ended s line piece free some short none p q = left_then p q
    (λ xs ys zs e f. let end = f.1 (empty piece none) in (
      ap raw_lines (e ∙ (ap (λ (w : List ℕ). line ++ w) end ∙ append-nil line)) ∙ raw_lines-last line some free,
      short,
      sym f.0
          ∙ end,
    ))

-- all that is unread is taken to the line
whole : (unread : List ℕ) (n : ℕ) → n ≡ length unread → take n unread ≡ unread
whole unread n all = take_all n unread (omega (arith, all))

pub all_taken : {a b : Option (List ℕ)} (s line unread longer : List ℕ) (n : ℕ) → n ≡ length unread
    → longer ≡ line ++ take n unread
    → Left a b (λ xs ys. s ++ xs ≡ line ++ (unread ++ ys)) → Left a b (λ xs ys. s ++ xs ≡ longer ++ ys)
all_taken s line unread longer n all is p = record {
  known = λ xs e.
      let u = p.known xs e in
      let same : longer ≡ line ++ unread = is ∙ ap (λ (w : List ℕ). line ++ w) (whole unread n all) in
      (u.0, u.1, u.2 ∙ (sym (append_assoc line unread u.0) ∙ ap (λ (w : List ℕ). w ++ u.0) (sym same)));
}

pub all_free : (line unread longer : List ℕ) (n : ℕ) → n ≡ length unread → longer ≡ line ++ take n unread
    → list_any is_feed line ≡ false → list_any is_feed unread ≡ false → list_any is_feed longer ≡ false
all_free line unread longer n all is f g =
    ap (list_any is_feed) (is ∙ ap (λ (w : List ℕ). line ++ w) (whole unread n all)) ∙ free_together line unread f g

-- a byte goes on to the end of its piece
onto-first : (c : ℕ) (pieces : List (List ℕ)) → (raw : List ℕ) × (more : List (List ℕ)) × (onto_first c pieces ≡ raw ∷ more)
    × (1 ≤ length raw)
onto-first c [] = (c ∷ [], [], refl, omega arith)
onto-first c (piece ∷ pieces) = (c ∷ piece, pieces, refl, omega arith)

-- the first piece is no shorter than what of it is known
piece_goes_on : (line rest : List ℕ) → list_any is_feed line ≡ false → 0 < length line
    → (raw : List ℕ) × (more : List (List ℕ)) × (slice_split is_feed (line ++ rest) ≡ raw ∷ more) × (length line ≤ length raw)
piece_goes_on [] rest free some = absurd (omega arith)
piece_goes_on (c ∷ []) rest free some =
    let p = or_parts (is_feed c) false free in
    let u = onto-first c (slice_split is_feed rest) in
    (u.0, u.1, slice_split-cons_no is_feed c rest p.0 ∙ u.2, u.3)
piece_goes_on (c ∷ d ∷ line) rest free some =
    let p = or_parts (is_feed c) (list_any is_feed (d ∷ line)) free in
    let u = piece_goes_on (d ∷ line) rest p.1 (omega arith) in
    (c ∷ u.0, u.1, slice_split-cons_no is_feed c (d ∷ (line ++ rest)) p.0 ∙ ap (onto_first c) u.2, omega (arith, u.3))

-- a piece that isn't empty is a line
first_kept : (raw : List ℕ) (more : List (List ℕ)) → 1 ≤ length raw → (others : List (List ℕ))
    × (without_empty_last (raw ∷ more) ≡ raw ∷ others)
first_kept [] more some = absurd (omega arith)
first_kept (c ∷ raw) [] some = ([], refl)
first_kept (c ∷ raw) (next ∷ more) some = (without_empty_last (next ∷ more), refl)

-- the first line is no shorter than what of it is known
line_goes_on : (line rest : List ℕ) → list_any is_feed line ≡ false → 0 < length line
    → (raw : List ℕ) × (more : List (List ℕ)) × (raw_lines (line ++ rest) ≡ raw ∷ more) × (length line ≤ length raw)
line_goes_on line rest free some =
    let u = piece_goes_on line rest free some in
    let kept = first_kept u.0 u.1 (omega (arith, u.3)) in
    (u.0, kept.0, ap without_empty_last u.2 ∙ kept.1, u.3)

-- a line that begins with these bytes is too long, or there was no memory
length_fault : (number : ℕ) (fault : ScriptFault) (line rest : List ℕ) → list_any is_feed line ≡ false
    → IsLengthFault number line fault → IsLineFault number fault (line ++ rest)
length_fault number (LineTooLong k) line rest free h =
    let first = line_goes_on line rest free (omega (arith, h.1)) in
    (h.0, first.0, first.1, first.2, omega (arith, h.1, first.3))
length_fault number Memory line rest free h = tt
length_fault number _ line rest free h = absurd h

-- with all that is unread
pub rest_too_long : {a b : Option (List ℕ)} (number : ℕ) (fault : ScriptFault) (s line unread : List ℕ) (n : ℕ)
    → n ≡ length unread
    → list_any is_feed line ≡ false → list_any is_feed unread ≡ false → IsLengthFault number (line ++ take n unread) fault
    → Left a b (λ xs ys. s ++ xs ≡ line ++ (unread ++ ys)) → Known a (λ xs. IsLineFault number fault (s ++ xs))
rest_too_long number fault s line unread n all f g h p = record {
  known = λ xs e.
      let u = p.known xs e in
      let bytes = line ++ unread in
      let fault_of = subst (λ (w : List ℕ). IsLengthFault number (line ++ w) fault) (whole unread n all) h in
      subst (IsLineFault number fault) (append_assoc line unread u.0 ∙ sym u.2)
      (length_fault number fault bytes u.0 (free_together line unread f g) fault_of);
}

-- with what of a piece stands before its first line feed
pub piece_too_long : {a b c : Option (List ℕ)} (number : ℕ) (fault : ScriptFault) (s line piece : List ℕ) (at : ℕ)
    → list_any is_feed line ≡ false → IsFirstFeed piece (Some at) → IsLengthFault number (line ++ take at piece) fault
    → Left a b (λ xs ys. s ++ xs ≡ line ++ ys) → Left b c (GivesBytes piece) → Known a (λ xs. IsLineFault number fault (s ++ xs))
piece_too_long number fault s line piece at free first h p q = record {
  known = λ xs e.
      let u = p.known xs e in
      let v = q.known u.0 u.1 in
      let front = take at piece in
      let back = 10 ∷ (drop (at + 1) piece ++ v.0) in
      let all : s ++ xs ≡ line ++ (piece ++ v.0) = u.2 ∙ ap (λ (w : List ℕ). line ++ w) v.2.0 in
      let cut : line ++ (piece ++ v.0) ≡ (line ++ front) ++ back = ap (λ (w : List ℕ). line ++ (w ++ v.0)) first.1
      ∙ (ap (λ (w : List ℕ). line ++ w) (append_assoc front (10 ∷ drop (at + 1) piece) v.0) ∙ sym (append_assoc line front back))
      in
      subst (IsLineFault number fault) (sym (all ∙ cut))
      (length_fault number fault (line ++ front) back (free_together line front free first.0) h);
}

-- the first line is no UTF-8, or there was no memory for its text
text_fault : (number : ℕ) (fault : ScriptFault) (all raw : List ℕ) (more : List (List ℕ)) → raw_lines all ≡ raw ∷ more
    → length raw ≤ 65536 → IsTextFault number raw fault → IsLineFault number fault all
text_fault number (NotUtf8 line) all raw more first short h = (h.0, raw, more, first, short, h.1)
text_fault number Memory all raw more first short h = tt
text_fault number _ all raw more first short h = absurd h

-- a piece as it was read, of what a reader has left
pub piece_left : {a b : Option (List ℕ)} (s t : List ℕ) (raw : RawLine) (result : Result Piece ScriptFault)
    → Left a b (λ xs ys. GivesRaw raw (s ++ xs) (t ++ ys))
    → IfOk result (λ piece. (all rest : List ℕ) → GivesRaw raw all rest → GivesPiece piece all rest)
    → IfOk result (λ piece. Left a b (λ xs ys. GivesPiece piece (s ++ xs) (t ++ ys)))
piece_left s t raw (Ok piece) p f = record {
  known = λ xs e. let u = p.known xs e in (u.0, u.1, f (s ++ xs) (t ++ u.0) u.2);
}
piece_left s t raw (Err fault) p f = tt

pub fault_left : {a b : Option (List ℕ)} (number : ℕ) (s t : List ℕ) (raw : RawLine) (result : Result Piece ScriptFault)
    → Left a b (λ xs ys. GivesRaw raw (s ++ xs) (t ++ ys))
    → IfErr result (λ fault. (all rest : List ℕ) → GivesRaw raw all rest → IsLineFault number fault all)
    → IfErr result (λ fault. Known a (λ xs. IsLineFault number fault (s ++ xs)))
fault_left number s t raw (Ok piece) p f = tt
fault_left number s t raw (Err fault) p f = record {
  known = λ xs e. let u = p.known xs e in f (s ++ xs) (t ++ u.0) u.2;
}

pub on_ok : {P : Type 0} (result : Result Piece ScriptFault) → P → OnOk result P
on_ok (Ok piece) p = p
on_ok (Err fault) p = tt

-- the whole line stands in what is unread
pub line_at_hand : {a : Option (List ℕ)} (text unread left : List ℕ) (at : ℕ) → IsFirstFeed unread (Some at)
    → length unread ≤ 8192 → left ≡ drop (at + 1) unread
    → IsUtf8 (take at unread) → text ≡ without_return (take at unread)
    → Left a a (λ xs ys. GivesPiece (pieces.Line text) (unread ++ xs) (left ++ ys))
line_at_hand text unread left at first short after utf8 is = record {
  known = λ xs e. (
    xs,
    e,
    (
      take at unread,
      rw after (first_line [] unread xs at refl first),
      record { short = omega (arith, short, length-take at unread); utf8 = utf8 },
      is,
    ),
  );
}

pub fault_at_hand : {a : Option (List ℕ)} (number : ℕ) (fault : ScriptFault) (unread : List ℕ) (at : ℕ)
    → IsFirstFeed unread (Some at) → length unread ≤ 8192
    → IsTextFault number (take at unread) fault → Known a (λ xs. IsLineFault number fault (unread ++ xs))
fault_at_hand number fault unread at first short h = record {
  known = λ xs e. text_fault number fault (unread ++ xs) (take at unread) (raw_lines (drop (at + 1) unread ++ xs))
      (first_line [] unread xs at refl first) (omega (arith, short, length-take at unread)) h;
}

-- a line of which all that was unread is taken goes on with what is read next
pub goes_on : {a b c : Option (List ℕ)} (s line piece : List ℕ) → Left a b (λ xs ys. s ++ xs ≡ line ++ ys) → Left b c (GivesBytes piece)
    → Left a c (λ xs zs. s ++ xs ≡ line ++ (piece ++ zs))
goes_on s line piece p q = left_then p q (λ xs ys zs is given. is ∙ ap (λ (w : List ℕ). line ++ w) given.0)
