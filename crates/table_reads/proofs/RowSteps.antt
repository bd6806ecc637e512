-- Rows that come into a map by number, one after another.
-- Nothing here speaks of tables.
use Rattle.std.proofs.Common.{◌≡◌, ◌<◌, ◌+◌, ℕ, Bool, true, false, ◌==◌, List, [], ◌∷◌, length, drop, get_or, Option, Some, None, if◌then◌else◌, sym, refl, ap, ◌∙◌, arith}
use Rattle.std.specs.Option.{option_or}
use Rattle.std.specs.Prelude.{option_map}
use Rattle.std.proofs.lemmas.Bool.{eqb-true}
use Rattle.bug_record.specs.Images.{numbers_of, bug_of, member_at}
use Rattle.bug_record.specs.Sets.{AllAbove, IsAscending}
use Rattle.bug_record.specs.declared.bug.Member.{Member}
use Rattle.bug_record.specs.declared.bug.SetImage.{SetImage}
use Rattle.base_sequences.proofs.SetLemmas.{has-above}
use Rattle.bug_record.specs.Rows.{row_of}
use Rattle.bug_record.specs.declared.row.ListRow.{ListRow}
use Rattle.store_keys.proofs.ImageLemmas.{none_from, has-member_some}
use Rattle.table_reads.proofs.LoopLemmas.{here}
use Rattle.table_reads.specs.Rows.{row_at, row_with, row_among}
use Rattle.table_sets.specs.declared.listed.RowFields.{RowFields}

pub or_or : {A : Type 0} (a b c : Option A) → option_or (option_or a b) c ≡ option_or a (option_or b c)
or_or None b c = refl
or_or (Some x) b c = refl

pub none_or : {A : Type 0} (o : Option A) → option_or o None ≡ o
none_or None = refl
none_or (Some a) = refl

or_test : (b : Bool) (r : ListRow) (o : Option ListRow) → (if b then Some r else o) ≡ option_or (if b then Some r else None) o
or_test true r o = refl
or_test false r o = refl

-- the row of one more bug, and those of the bugs that are left
pub member_came : (f : RowFields) (ms : List Member) (at n : ℕ) (m other : Member) (old new to : Option ListRow) → at < length ms → m ≡ get_or ms at other
    → new ≡ (if m.number == n then Some (row_with f m) else old) → option_or (row_among f (drop at ms) n) old ≡ to → option_or (row_among f (drop (at + 1) ms) n) new ≡ to
member_came f ms at n m other old new to low is came before =
    ap (option_or (row_among f (drop (at + 1) ms) n)) (came ∙ or_test (m.number == n) (row_with f m) old)
    ∙ sym (or_or (row_among f (drop (at + 1) ms) n) (if m.number == n then Some (row_with f m) else None) old)
    ∙ sym (ap (λ (xs : List Member). option_or (row_among f xs n) old) (here ms at m other low is))
    ∙ before

-- a number that all are above is none of theirs
none_above : (ms : List Member) (a n : ℕ) → AllAbove a (numbers_of ms) → a ≡ n → member_at ms n ≡ None
none_above ms a n above same = none_from (member_at ms n) (λ x e.
    let low : a < n = has-above (numbers_of ms) a n above (has-member_some ms n x e) in
    omega (arith, low, same))

module _ (i : SetImage) (n : ℕ) where
  abbrev fields : RowFields
  fields = record { severity = i.shared.severity; closed = i.shared.closed }

  abbrev shown : Option Member → Option ListRow
  shown o = option_map (row_of n) (option_map (bug_of i) o)

  abbrev numbered : Member → ℕ → ListRow
  numbered m x = record { number = x; severity = i.shared.severity; closed = i.shared.closed; title = m.title }

  -- of bugs whose numbers ascend the last with a number is the first
  among_is : (ms : List Member) → IsAscending (numbers_of ms) → row_among fields ms n ≡ shown (member_at ms n)
  among_is [] up = refl
  among_is (m ∷ ms) up = step (m.number == n) refl (among_is ms up.1)
    where
      step : (b : Bool) → (m.number == n) ≡ b → row_among fields ms n ≡ shown (member_at ms n)
          → option_or (row_among fields ms n) (if b then Some (row_with fields m) else None) ≡ shown (if b then Some m else member_at ms n)
      step true e more =
          ap (λ o. option_or o (Some (row_with fields m))) (more ∙ ap shown (none_above ms m.number n up.0 (eqb-true m.number n e)))
          ∙ ap (λ x. Some (numbered m x)) (eqb-true m.number n e)
      step false e more = none_or (row_among fields ms n) ∙ more

  pub rows_of_members : IsAscending (numbers_of i.members) → row_among fields i.members n ≡ row_at i n
  rows_of_members up = among_is i.members up
