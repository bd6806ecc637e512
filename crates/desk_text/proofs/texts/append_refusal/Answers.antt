use Rattle.std.proofs.Common.{codes}
use Rattle.std.specs.Fmt.{decimal}
use Rattle.desk_text.specs.Texts.{difference_text, full_text}
use Rattle.desk_text.proofs.Appends.{alone, without_third}
use Rattle.desk_text.proofs.texts.append_refusal.Goals as goal

pub returns-in-Unknown : goal.returns-in-Unknown
returns-in-Unknown c =
    rw c.in-Unknown.is
    (alone c.append_text.result c.args.out.now.items (codes "unknown command") c.append_text.new.out.items
    c.append_text.ensures)

pub returns-in-Malformed : goal.returns-in-Malformed
returns-in-Malformed c =
    rw c.in-Malformed.is
    (alone c.append_text-in-Malformed.result c.args.out.now.items (codes "malformed command") c.append_text-in-Malformed.new.out.items
    c.append_text-in-Malformed.ensures)

pub returns-in-TooLong : goal.returns-in-TooLong
returns-in-TooLong c =
    rw c.in-TooLong.is
    (alone c.append_text-in-TooLong.result c.args.out.now.items (codes "text too long") c.append_text-in-TooLong.new.out.items
    c.append_text-in-TooLong.ensures)

pub returns-in-BadSeverity : goal.returns-in-BadSeverity
returns-in-BadSeverity c =
    rw c.in-BadSeverity.is
    (alone c.append_text-in-BadSeverity.result c.args.out.now.items (codes "unknown severity") c.append_text-in-BadSeverity.new.out.items
    c.append_text-in-BadSeverity.ensures)

pub returns-in-BadTag : goal.returns-in-BadTag
returns-in-BadTag c =
    rw c.in-BadTag.is
    (alone c.append_text-in-BadTag.result c.args.out.now.items (codes "unknown tag") c.append_text-in-BadTag.new.out.items
    c.append_text-in-BadTag.ensures)

pub returns-in-BadVersion : goal.returns-in-BadVersion
returns-in-BadVersion c =
    rw c.in-BadVersion.is
    (alone c.append_text-in-BadVersion.result c.args.out.now.items (codes "bad version") c.append_text-in-BadVersion.new.out.items
    c.append_text-in-BadVersion.ensures)

pub returns-in-BadPackage : goal.returns-in-BadPackage
returns-in-BadPackage c =
    rw c.in-BadPackage.is
    (alone c.append_text-in-BadPackage.result c.args.out.now.items (codes "bad package name") c.append_text-in-BadPackage.new.out.items
    c.append_text-in-BadPackage.ensures)

pub returns-in-NoName : goal.returns-in-NoName
returns-in-NoName c =
    rw c.in-NoName.is
    (without_third c.append_between.result c.args.out.now.items (codes "no such name -") (decimal c.in-NoName.name)
    c.append_between.new.out.items c.append_between.ensures)

pub returns-in-NoBug : goal.returns-in-NoBug
returns-in-NoBug c =
    rw c.in-NoBug.is
    (without_third c.append_between-in-NoBug.result c.args.out.now.items (codes "no such bug ") (decimal c.in-NoBug.number)
    c.append_between-in-NoBug.new.out.items c.append_between-in-NoBug.ensures)

pub returns-in-Archived : goal.returns-in-Archived
returns-in-Archived c = rw c.in-Archived.is c.append_of_bug.ensures

pub returns-in-NotArchived : goal.returns-in-NotArchived
returns-in-NotArchived c = rw c.in-NotArchived.is c.append_of_bug-in-NotArchived.ensures

pub returns-in-Differ : goal.returns-in-Differ
unfolding difference_text
returns-in-Differ c = rw c.in-Differ.is (rw c.difference_end.ensures at c.append_of_bug-in-Differ.ensures)

pub returns-in-NotMerged : goal.returns-in-NotMerged
returns-in-NotMerged c = rw c.in-NotMerged.is c.append_of_bug-in-NotMerged.ensures

pub returns-in-Merged : goal.returns-in-Merged
returns-in-Merged c = rw c.in-Merged.is c.append_of_bug-in-Merged.ensures

pub returns-in-NameTaken : goal.returns-in-NameTaken
returns-in-NameTaken c = rw c.in-NameTaken.is c.append_between-in-NameTaken.ensures

pub returns-in-OwnSet : goal.returns-in-OwnSet
returns-in-OwnSet c = rw c.in-OwnSet.is c.append_of_bug-in-OwnSet.ensures

pub returns-in-NotDone : goal.returns-in-NotDone
returns-in-NotDone c = rw c.in-NotDone.is c.append_of_bug-in-NotDone.ensures

pub returns-in-StillFound : goal.returns-in-StillFound
returns-in-StillFound c = rw c.in-StillFound.is c.append_still_found.ensures

pub returns-in-Full : goal.returns-in-Full
returns-in-Full c =
    rw c.in-Full.is
    (alone c.append_text-in-Full.result c.args.out.now.items full_text c.append_text-in-Full.new.out.items
    (rw c.full_text.ensures at c.append_text-in-Full.ensures))
