-- What a connection goes on to show.
use Rattle.table_opening.proofs.Imports.{IsLeft, HasContent, IsAsBefore, StillShows}
use Rattle.table_schema.proofs.Exports.{◌≡◌, refl, sym, ap, subst, ◌∙◌, Database, IsDatabase, State, Content, content_of, AreShown}

-- tables that are as they were show the same desk
pub shows_now : (old new : State) (c : Content) → IsAsBefore old new → HasContent c old → HasContent c new
shows_now old new c same shows clean o =
    let was = shows (same.honest clean) (same.was_open clean o) in
    let now = same.tables clean o in (
      record {
        settled = now ∙ was.0.settled ∙ sym (same.committed clean o);
        schema = ap (λ (d : Database). d.schema) now ∙ was.0.schema;
        sound = subst IsDatabase (sym now) was.0.sound;
        shown = subst (λ (d : Database). AreShown d.trees) (sym now) was.0.shown;
      },
      ap (λ (d : Database). content_of d.trees) now ∙ was.1,
    )

pub still_same : (s : State) → StillShows s s
still_same s c shows = record { honest = λ clean. clean; was_open = λ clean o. o; tables = λ clean o. refl; committed = λ clean o. refl }

pub still_is : (old new : State) → old ≡ new → StillShows old new
still_is old new is = subst (StillShows old) is (still_same old)

pub still_then : (a b c : State) → StillShows a b → ((k : Content) → HasContent k b → IsAsBefore b c) → StillShows a c
still_then a b c one two k shows =
    let first = one k shows in
    let next = two k (shows_now a b k first shows) in
    record {
      honest = λ clean. first.honest (next.honest clean);
      was_open = λ clean o. first.was_open (next.honest clean) (next.was_open clean o);
      tables = λ clean o. next.tables clean o ∙ first.tables (next.honest clean) (next.was_open clean o);
      committed = λ clean o. next.committed clean o ∙ first.committed (next.honest clean) (next.was_open clean o);
    }

-- tables that were left show the same desk
pub left_still : (old new : State) → IsLeft old new → StillShows old new
left_still old new left c shows = record {
  honest = left.honest;
  was_open = left.was_open;
  tables = λ clean o. left.now clean o (shows (left.honest clean) (left.was_open clean o)).0.settled;
  committed = left.committed;
}
