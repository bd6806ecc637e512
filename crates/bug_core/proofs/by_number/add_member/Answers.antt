use Rattle.std.proofs.Common.{◌≡◌, true, false, sym, ap, ◌∙◌, subst}
use Rattle.std.specs.Prelude.{is_some}
use Rattle.std.specs.Map.{lookup, values_of}
use Rattle.std.specs.Ordering.{nat_cmp}
use Rattle.std.specs.BTreeMap.{is_at, insert_entry}
use Rattle.bug_core.specs.Joins.{AreByNumber}
use Rattle.bug_core.proofs.EntryLemmas.{has-lookup, values-new, keyed-new, with_item-there}
use Rattle.bug_core.proofs.by_number.add_member.Goals as goal

pub returns-in_ok-insert-clause-members : goal.returns-in_ok-insert-clause-members
returns-in_ok-insert-clause-members c =
    let none : is_some (lookup (is_at (nat_cmp c.args.member.now.number)) c.args.map.now.entries) ≡ false = cc in
    ap values_of (c.in_ok-insert.ensures.entries
    ∙ ap (insert_entry nat_cmp c.args.map.now.entries c.args.member.now.number) c.in_ok-copy.ensures)
    ∙ values-new c.args.map.now.entries c.args.member.now c.requires.keyed none

pub returns-in_ok-insert-clause-keyed : goal.returns-in_ok-insert-clause-keyed
returns-in_ok-insert-clause-keyed c =
    let none : is_some (lookup (is_at (nat_cmp c.args.member.now.number)) c.args.map.now.entries) ≡ false = cc in
    subst AreByNumber (sym (c.in_ok-insert.ensures.entries
    ∙ ap (insert_entry nat_cmp c.args.map.now.entries c.args.member.now.number) c.in_ok-copy.ensures))
    (keyed-new c.args.map.now.entries c.args.member.now c.requires.keyed none)

pub returns-else-not-contains_key-clause-members : goal.returns-else-not-contains_key-clause-members
returns-else-not-contains_key-clause-members c =
    let some : is_some (lookup (is_at (nat_cmp c.args.member.now.number)) c.args.map.now.entries) ≡ true = cc in
    sym (with_item-there (values_of c.args.map.now.entries) c.args.member.now c.requires.keyed.ascending
    (sym (has-lookup c.args.map.now.entries c.args.member.now.number c.requires.keyed.keys) ∙ some))
