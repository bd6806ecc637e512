-- What running a script leaves and has written, at its end and at each fault.
-- This project's own rule.
use Rattle.std.specs.Prelude.{ℕ, ◌≡◌, ◌≢◌, ◌⊎◌, ◌+◌, ◌<◌, List, [], ◌∷◌, ◌++◌, length, take, map, Option, Some, Result, Ok, Err}
use Rattle.std.specs.Prelude.{⊤}
use Rattle.std.specs.Io.KnownBytes.{Appends}
use Rattle.bug_record.specs.Sets.{Each}
use Rattle.bug_record.specs.Desk.{Desk}
use Rattle.desk_text.specs.Texts.{fault_text}
use Rattle.base_faults.specs.declared.store_fault.StoreFault.{StoreFault}
use Rattle.base_faults.specs.declared.store_fault.End.TheVariants as ends
use Rattle.store_contract.specs.Store.{Faults, counted}
use Rattle.store_contract.specs.Message.{Entry, IsReceived}
use Rattle.control_lines.specs.Lines.{raw_lines, without_return}
use Rattle.control_lines.specs.Reading.{IsGoodLine, IsLineFault, IsBegun}
use Rattle.message_receiving.specs.Ends.{IsLineOf}
use Rattle.message_directives.specs.Transcripts.{received_text}
use Rattle.desk_run.specs.Script.{Part, Message, DirectiveLine, Directive, From, Report, Branch, ListOf, Show, Bad, directive_of}
use Rattle.desk_run.specs.Script.{Standing, parts_of_lines, script_of, part_text, part_after, text_of, after_parts, end_of_script}
use Rattle.bug_record.specs.declared.severity.Severity.{Severity}
use Rattle.version_nodes.specs.Nodes.{Node}
use Rattle.message_directives.specs.Reports.{report_severity}
use Rattle.message_directives.specs.Questions.{AsksForList}
use Rattle.message_directives.specs.Branches.{nodes_of}
use Rattle.control_lines.specs.declared.fault.ScriptFault.{ScriptFault}
use Rattle.control_lines.specs.declared.fault.ScriptFault.TheVariants.{Write, Memory, Store}
use Rattle.desk_run.specs.declared.script.ScriptEnd.{ScriptEnd}

-- a directive that asks the store: a report whose words are good, a branch whose words are nodes, a
-- list whose words give a node, or a page
abbrev pub AsksStore : Directive → Type 0
AsksStore (Report package_name version severity title) =
    (s : Severity) × (report_severity package_name version severity title ≡ Ok s)
AsksStore (Branch words) = (nodes : List Node) × (nodes_of words ≡ Some nodes)
AsksStore (ListOf package_name version) = AsksForList package_name version
AsksStore (Show number) = ⊤
AsksStore (From sender) = ⊥
AsksStore Bad = ⊥

-- The store failed at line k of a message, which is not blank and no comment; the lines before it
-- came to these outcomes.
abbrev pub FailsAt : List (List ℕ) → Standing → StoreFault → Desk → List Entry → ℕ → Type 0
FailsAt lines s fault d outcomes k =
    IsReceived s.sender lines s.desk outcomes (ends.Store fault k) d × IsLineOf (ends.Store fault k) lines

-- The store failed in a part: a message was received up to a line, and its text ends with that line
-- and the fault's; a directive changed nothing, and its text is the fault's.
abbrev pub FaultsIn : Part → Standing → StoreFault → Desk → List ℕ → Type 0
FaultsIn (Message lines) s fault d text =
    (outcomes : List Entry) × (k : ℕ) × FailsAt lines s fault d outcomes k
    × (text ≡ received_text outcomes (ends.Store fault k) lines)
FaultsIn (DirectiveLine line) s fault d text = AsksStore (directive_of line) × (d ≡ s.desk) × (text ≡ fault_text fault)

-- What there is before parts of a script, and at their end or where the script stops in them.
pub record Course : Type 0 where
  -- where the script stands before them
  pub from : Standing
  pub desk : Desk
  -- the store's faults
  pub faults_before : Faults
  pub faults : Faults
  -- the bytes written, if they are known
  pub written_before : Option (List ℕ)
  pub written : Option (List ℕ)

-- this is what was written
abbrev pub Writes : Course → List ℕ → Type 0
Writes course text = Appends course.written_before course.written text

-- A part was carried out, whole and with no fault, or up to a fault of the store, which is counted;
-- and this is to be written for it.
abbrev pub IsCarried : Part → Course → List ℕ → Type 0
IsCarried part course text =
    ((course.desk ≡ (part_after part course.from).desk) × (text ≡ part_text part course.from)
    × (course.faults ≡ course.faults_before))
    ⊎ ((fault : StoreFault) × FaultsIn part course.from fault course.desk text
    × (course.faults ≡ counted fault course.faults_before))

-- A part was carried out for which nothing is written, since there was no memory for a transcript:
-- a message, to its end with no fault; or up to a fault of the store, which is counted, and a line
-- before that one has an outcome.
-- No directive is carried out so: the text of a change or of a fault takes no memory.
abbrev pub IsUntold : Part → Course → Type 0
IsUntold (Message lines) course =
    ((course.desk ≡ (part_after (Message lines) course.from).desk) × (course.faults ≡ course.faults_before))
    ⊎ ((fault : StoreFault) × (outcomes : List Entry) × (k : ℕ) × FailsAt lines course.from fault course.desk outcomes k
    × (outcomes ≢ []) × (course.faults ≡ counted fault course.faults_before))
IsUntold (DirectiveLine line) course = ⊥

-- The course of the parts after these.
abbrev pub course_after : List Part → Course → Course
course_after parts course = record course { from = after_parts parts course.from }

-- These parts were carried out, with no fault of the store, and their texts written.
pub record CarriedOut (parts : List Part) (course : Course) : Type 0 where
  pub desk : course.desk ≡ (after_parts parts course.from).desk
  pub faults : course.faults ≡ course.faults_before
  pub texts : Writes course (text_of parts course.from)

-- each line is good: at most 65,536 bytes, and UTF-8
abbrev pub AreGood : List (List ℕ) → Type 0
AreGood raws = Each IsGoodLine raws

-- Where a script stands in its input: it has read these lines, which are good, and so much is left
-- after them; and of the parts of those lines it has come to this one.
pub record Place (input : List ℕ) : Type 0 where
  pub lines : List (List ℕ)
  pub left : List ℕ
  pub read : raw_lines input ≡ lines ++ raw_lines left
  pub good : AreGood lines
  pub before : List Part
  pub part : Part
  pub after : List Part
  pub cut : parts_of_lines (map without_return lines) ≡ before ++ part ∷ after

-- the part is a message
abbrev pub IsMessage : Part → Type 0
IsMessage (Message lines) = ⊤
IsMessage (DirectiveLine line) = ⊥

-- The part is the message whose lines are gathered: the lines that were read end with it, and the
-- next one may belong to it.
abbrev pub IsGathered : {input : List ℕ} → Place input → Type 0
IsGathered place = IsMessage place.part × (place.after ≡ [])

-- The part is finished: another follows it in the lines that were read, or the input has ended.
-- Those lines were taken from the reader, which has `rest` left.
pub record IsFinished {input : List ℕ} (place : Place input) (rest : Option (List ℕ)) : Type 0 where
  -- what was taken from the reader besides those lines
  pub unused : List ℕ
  pub untaken : List ℕ
  pub is_left : place.left ≡ unused ++ untaken
  pub is_untaken : rest ≡ Some untaken
  pub finished : (place.after ≢ []) ⊎ (place.left ≡ [])

-- How a part was cut short by a fault, and what was written for it: all of its text, where the
-- store failed; a front of it, not all, where the writer did; nothing, where memory ran out, and
-- then it was not begun or asked for a list or a page, and changed nothing, or it is a message
-- whose transcript had no memory.
-- A fault of reading cuts no part short.
abbrev pub IsCutShort : Part → Course → ScriptFault → List ℕ → Type 0
IsCutShort part course (Store fault) written =
    FaultsIn part course.from fault course.desk written × (course.faults ≡ counted fault course.faults_before)
IsCutShort part course Write written =
    (text : List ℕ) × (n : ℕ) × (n < length text) × IsCarried part course text × (written ≡ take n text)
IsCutShort part course Memory written =
    (((course.desk ≡ course.from.desk) × (course.faults ≡ course.faults_before)) ⊎ IsUntold part course) × (written ≡ [])
IsCutShort part course fault written = ⊥

-- The script ran to its end: all of its lines are good, all of its parts were carried out and their
-- texts written, and the end says whether anything was refused.
-- Over an empty desk, this script
--     @report foo 1 normal a
--     close 1
--     @show 2
-- writes `OK 1`, `> close 1`, `OK 1` and `NO no such bug 2`, and ends as refused.
pub record RanToItsEnd (input : List ℕ) (course : Course) (end : ScriptEnd) : Type 0 where
  pub good : AreGood (raw_lines input)
  pub carried : CarriedOut (script_of input) course
  pub says : end ≡ end_of_script (after_parts (script_of input) course.from).refused

-- The script stopped reading: the parts before the message whose lines were gathered were carried
-- out and their texts written, that message was not begun, and the fault is that of the next line.
-- Over an empty desk, this script, whose third line is no UTF-8,
--     @report foo 1 normal a
--     close 1
--     \xff
-- writes `OK 1` alone, and ends as `NotUtf8(3)`: bug 1 is not closed.
pub record StoppedReading (input : List ℕ) (course : Course) (fault : ScriptFault) : Type 0 where
  pub place : Place input
  pub gathered : IsGathered place
  pub carried : CarriedOut place.before course
  pub next : IsLineFault (length place.lines + 1) fault place.left

-- The script stopped in a part that was finished: the parts before it were carried out and their
-- texts written, and it was cut short.
-- Over an empty desk whose store is full at its second change, this script
--     @report foo 1 normal a
--     close 1
--     @show 1
-- writes `OK 1`, `> close 1` and `Store fault: full.`, and ends as `Store(Full)`: bug 1 is not
-- closed, and no page is shown.
pub record StoppedInPart (input : List ℕ) (rest : Option (List ℕ)) (course : Course) (fault : ScriptFault) : Type 0 where
  pub place : Place input
  pub finished : IsFinished place rest
  pub written : List ℕ
  pub cut_short : IsCutShort place.part (course_after place.before course) fault written
  pub texts : Writes course (text_of place.before course.from ++ written)

-- What a script over this input leaves and has written, where its reader has so much left.
abbrev pub Ends : List ℕ → Option (List ℕ) → Course → Result ScriptEnd ScriptFault → Type 0
Ends input rest course (Ok end) = RanToItsEnd input course end
Ends input rest course (Err fault) = StoppedReading input course fault ⊎ StoppedInPart input rest course fault

-- What a script has read of its input at a failed read: good lines, and a front of the next one,
-- of at most 65,536 bytes.
pub record IsReadInPart (input rest : List ℕ) : Type 0 where
  pub good : List (List ℕ)
  pub left : List ℕ
  pub lines : raw_lines input ≡ good ++ raw_lines left
  pub are_good : AreGood good
  pub begun : IsBegun left rest

-- The store's faults after a script, or a part of one.
-- Before `Write` and `Memory` the store may have failed once: where it has not, or failed for want
-- of memory, they are as before.
abbrev pub IsCounted : {T : Type 0} → Result T ScriptFault → Faults → Faults → Type 0
IsCounted (Ok end) before now = now ≡ before
IsCounted (Err (Store fault)) before now = now ≡ counted fault before
IsCounted (Err Write) before now = (fault : StoreFault) × (now ≡ counted fault before)
IsCounted (Err Memory) before now = (fault : StoreFault) × (now ≡ counted fault before)
IsCounted (Err fault) before now = now ≡ before
