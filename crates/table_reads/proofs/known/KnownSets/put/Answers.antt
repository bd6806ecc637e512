use Rattle.std.proofs.Common.{ℕ, List, sym, subst}
use Rattle.version_nodes.specs.Trees.{Ancestry}
use Rattle.bug_record.specs.Images.{CoverSets}
use Rattle.bug_record.specs.declared.bug.SetImage.{SetImage}
use Rattle.store_sets.specs.Plain.{desk_of, keyed_of}
use Rattle.table_reads.proofs.KnownLemmas.{put_part, none_part}
use Rattle.table_reads.proofs.known.KnownSets.put.Goals as goal

pub put-requires-clause-whole : goal.put-requires-clause-whole
put-requires-clause-whole c =
    subst (λ (is : List SetImage). (tree : Ancestry) (next : ℕ) → CoverSets (desk_of c.args.self.now.bugs tree next) is) (sym c.from_ref.ensures.value) c.requires.whole

pub returns-in-Ok : goal.returns-in-Ok
returns-in-Ok c = put_part c.args.image.now c.from_ref.result.now (keyed_of c.args.self.now.bugs) (keyed_of c.put.new.self) c.from_ref.ensures.value c.in-Ok.ensures.ok

pub returns-in-Err : goal.returns-in-Err
returns-in-Err c = none_part _ _ c.forget.ensures
