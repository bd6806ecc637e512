-- Parts of a script, carried out one after another.
use Rattle.std.proofs.Common.{◌≡◌, inl, inr, ℕ, Bool, true, false, List, [], ◌∷◌, ◌++◌, sym, ◌∙◌, ap, subst, refl, append_assoc, append-nil}
use Rattle.std.proofs.Common.{Option, Result, Ok, Err}
use Rattle.std.specs.Prelude.{◌≢◌, ⊤}
use Rattle.std.specs.Io.KnownBytes.{Appends}
use Rattle.bug_record.specs.Desk.{Desk}
use Rattle.store_contract.specs.Store.{Faults}
use Rattle.desk_run.specs.Script.{Part, Message, DirectiveLine, Standing, part_text, part_after, text_of, after_parts}
use Rattle.desk_run.specs.Script.{parts_of_lines, with_line, is_directive, end_of_script}
use Rattle.desk_run.specs.Gathering.{parts_from}
use Rattle.desk_run.specs.Running.{Course}
use Rattle.desk_run.specs.Stopping.{StopsIn, Stops, IfBegun, part_course}
use Rattle.desk_run.specs.Carrying.{Runs, EndsParts}
use Rattle.control_lines.specs.declared.fault.ScriptFault.{ScriptFault}
use Rattle.control_lines.specs.declared.fault.ScriptFault.TheVariants as stops
use Rattle.desk_run.specs.declared.script.ScriptEnd.{ScriptEnd}
use Rattle.std.proofs.KnownBytes.{Appends-trans}
use Rattle.desk_run.proofs.WrittenLemmas.{appends_none, course}
use Rattle.desk_run.proofs.PartLemmas.{not_begun}

text_nil : (a : Standing) → text_of [] a ≡ []
unfolding text_of
text_nil a = refl

text_one : (p : Part) (a : Standing) → text_of (p ∷ []) a ≡ part_text p a
unfolding text_of
text_one p a = append-nil (part_text p a)

after_none : (a : Standing) → after_parts [] a ≡ a
unfolding after_parts
after_none a = refl

after_one : (p : Part) (a : Standing) → after_parts (p ∷ []) a ≡ part_after p a
unfolding after_parts
after_one p a = refl

after_append : (ps qs : List Part) (a : Standing) → after_parts (ps ++ qs) a ≡ after_parts qs (after_parts ps a)
unfolding after_parts
after_append [] qs a = refl
after_append (p ∷ ps) qs a = after_append ps qs (part_after p a)

text_append : (ps qs : List Part) (a : Standing) → text_of (ps ++ qs) a ≡ text_of ps a ++ text_of qs (after_parts ps a)
unfolding text_of after_parts
text_append [] qs a = refl
text_append (p ∷ ps) qs a =
    ap (λ (w : List ℕ). part_text p a ++ w) (text_append ps qs (part_after p a))
    ∙ sym (append_assoc (part_text p a) (text_of ps (part_after p a)) (text_of qs (after_parts ps (part_after p a))))

-- one part carried out
pub one_ran : (part : Part) (a b : Standing) (c0 c1 : Option (List ℕ)) → (b ≡ part_after part a)
    × Appends c0 c1 (part_text part a) → Runs (part ∷ []) a b c0 c1
one_ran part a b c0 c1 h = (h.0 ∙ sym (after_one part a), subst (Appends c0 c1) (sym (text_one part a)) h.1)

-- a stop in one part
pub one_stops : (part : Part) (a : Standing) (d : Desk) (n0 n1 : Faults) (c0 c1 : Option (List ℕ)) (fault : ScriptFault)
    (P : List Part → Type 0) → StopsIn part (course a d n0 n1 c0 c1) fault → IfBegun fault (course a d n0 n1 c0 c1) (P [])
    → Stops (part ∷ []) (course a d n0 n1 c0 c1) fault P
one_stops part a d n0 n1 c0 c1 fault P h b = record {
  before = [];
  part = part;
  after = [];
  split = refl;
  between = c0;
  ran = subst (Appends c0 c0) (sym (text_nil a)) (appends_none c0);
  stops = subst (λ (s : Standing). StopsIn part (course s d n0 n1 c0 c1) fault) (sym (after_none a)) h;
  begun = subst (λ (s : Standing). IfBegun fault (course s d n0 n1 c0 c1) (P [])) (sym (after_none a)) b;
}

-- a part that was begun, whatever the fault
pub if_begun : (fault : ScriptFault) (p : Course) (P : Type 0) → P → IfBegun fault p P
if_begun (stops.Store f) p P h = h
if_begun stops.Write p P h = h
if_begun stops.Memory p P h = inr h
if_begun stops.Read p P h = tt
if_begun (stops.NotUtf8 line) p P h = tt
if_begun (stops.LineTooLong line) p P h = tt

pub if_begun_more : (fault : ScriptFault) (p : Course) (P Q : Type 0) → (P → Q) → IfBegun fault p P → IfBegun fault p Q
if_begun_more (stops.Store f) p P Q more h = more h
if_begun_more stops.Write p P Q more h = more h
if_begun_more stops.Memory p P Q more (inl none) = inl none
if_begun_more stops.Memory p P Q more (inr h) = inr (more h)
if_begun_more stops.Read p P Q more h = tt
if_begun_more (stops.NotUtf8 line) p P Q more h = tt
if_begun_more (stops.LineTooLong line) p P Q more h = tt

pub runs_none : (a : Standing) (c : Option (List ℕ)) → Runs [] a a c c
runs_none a c = (sym (after_none a), subst (Appends c c) (sym (text_nil a)) (appends_none c))

pub runs_then : (ps qs : List Part) (a b e : Standing) (c0 c1 c2 : Option (List ℕ)) → Runs ps a b c0 c1 → Runs qs b e c1 c2
    → Runs (ps ++ qs) a e c0 c2
runs_then ps qs a b e c0 c1 c2 p q = (
  q.0 ∙ (ap (after_parts qs) p.0 ∙ sym (after_append ps qs a)),
  subst (Appends c0 c2) (ap (λ (s : Standing). text_of ps a ++ text_of qs s) p.0 ∙ sym (text_append ps qs a))
      (Appends-trans c0 c1 c2 (text_of ps a) (text_of qs b) p.1 q.1),
)

pub runs_then_stops : (ps qs : List Part) (a b : Standing) (d : Desk) (n0 n1 : Faults) (c0 c1 c2 : Option (List ℕ))
    (fault : ScriptFault) (P : List Part → Type 0) → Runs ps a b c0 c1 → Stops qs (course b d n0 n1 c1 c2) fault P
    → Stops (ps ++ qs) (course a d n0 n1 c0 c2) fault P
runs_then_stops ps qs a b d n0 n1 c0 c1 c2 fault P p q =
    let s : after_parts (ps ++ q.before) a ≡ after_parts q.before b =
    after_append ps q.before a ∙ ap (after_parts q.before) (sym p.0) in
    let t : text_of (ps ++ q.before) a ≡ text_of ps a ++ text_of q.before b =
    text_append ps q.before a ∙ ap (λ (x : Standing). text_of ps a ++ text_of q.before x) (sym p.0) in
    record {
      before = ps ++ q.before;
      part = q.part;
      after = q.after;
      split = ap (λ (w : List Part). ps ++ w) q.split ∙ sym (append_assoc ps q.before (q.part ∷ q.after));
      between = q.between;
      ran = subst (Appends c0 q.between) (sym t) (Appends-trans c0 c1 q.between (text_of ps a) (text_of q.before b) p.1 q.ran);
      stops = subst (λ (x : Standing). StopsIn q.part (course x d n0 n1 q.between c2) fault) (sym s) q.stops;
      begun = subst (λ (x : Standing). IfBegun fault (course x d n0 n1 q.between c2) (P q.after)) (sym s) q.begun;
    }

-- more parts would have followed
pub stops_more : (ps qs : List Part) (a : Standing) (d : Desk) (n0 n1 : Faults) (c0 c1 : Option (List ℕ)) (fault : ScriptFault)
    (P Q : List Part → Type 0) → ((after : List Part) → P after → Q (after ++ qs))
    → Stops ps (course a d n0 n1 c0 c1) fault P → Stops (ps ++ qs) (course a d n0 n1 c0 c1) fault Q
stops_more ps qs a d n0 n1 c0 c1 fault P Q more q = record {
  before = q.before;
  part = q.part;
  after = q.after ++ qs;
  split = ap (λ (w : List Part). w ++ qs) q.split ∙ append_assoc q.before (q.part ∷ q.after) qs;
  between = q.between;
  ran = q.ran;
  stops = q.stops;
  begun = if_begun_more fault (part_course (course a d n0 n1 c0 c1) q.before q.between) (P q.after) (Q (q.after ++ qs))
      (more q.after) q.begun;
}

-- what is true of the parts after it
pub stops_so : (ps : List Part) (p : Course) (fault : ScriptFault) (P Q : List Part → Type 0)
    → ((after : List Part) → P after → Q after) → Stops ps p fault P → Stops ps p fault Q
stops_so ps p fault P Q more q = record {
  before = q.before;
  part = q.part;
  after = q.after;
  split = q.split;
  between = q.between;
  ran = q.ran;
  stops = q.stops;
  begun = if_begun_more fault (part_course p q.before q.between) (P q.after) (Q q.after) (more q.after) q.begun;
}

-- the parts begin with a message
parts_begin_at : (gathered : List (List ℕ)) (line : List ℕ) (lines : List (List ℕ)) (b : Bool) → is_directive line ≡ b
    → (message : List (List ℕ)) × (rest : List Part) × (parts_from (gathered ++ line ∷ []) lines ≡ Message message ∷ rest)
    → (message : List (List ℕ)) × (rest : List Part) × (parts_from gathered (line ∷ lines) ≡ Message message ∷ rest)
parts_begin_at gathered line lines true e r = (gathered, DirectiveLine line ∷ parts_from [] lines, rw e refl)
parts_begin_at gathered line lines false e r = (r.0, r.1, rw e r.2)

pub parts_begin : (gathered lines : List (List ℕ)) → (message : List (List ℕ)) × (rest : List Part)
    × (parts_from gathered lines ≡ Message message ∷ rest)
parts_begin gathered [] = (gathered, [], refl)
parts_begin gathered (line ∷ lines) =
    parts_begin_at gathered line lines (is_directive line) refl (parts_begin (gathered ++ line ∷ []) lines)

-- out of memory while a message is gathered
pub gathered_stops : (gathered lines : List (List ℕ)) (a : Standing) (d : Desk) (n : Faults) (c : Option (List ℕ))
    (P : List Part → Type 0) → d ≡ a.desk → Stops (parts_from gathered lines) (course a d n n c c) stops.Memory P
gathered_stops gathered lines a d n c P e =
    let p = parts_begin gathered lines in
    subst (λ (ps : List Part). Stops ps (course a d n n c c) stops.Memory P) (sym p.2)
    (stops_more (Message p.0 ∷ []) p.1 a d n n c c stops.Memory (λ after. ⊥) P (λ after none. absurd none)
    (one_stops (Message p.0) a d n n c c stops.Memory (λ after. ⊥) (not_begun (Message p.0) a d n n c e refl)
    (inl (e, refl, appends_none c))))

pub parts_directive : (gathered : List (List ℕ)) (line : List ℕ) (lines : List (List ℕ)) → is_directive line ≡ true
    → parts_from gathered (line ∷ lines) ≡ Message gathered ∷ DirectiveLine line ∷ parts_from [] lines
parts_directive gathered line lines e = rw e refl

pub parts_gathered : (gathered : List (List ℕ)) (line : List ℕ) (lines : List (List ℕ)) → is_directive line ≡ false
    → parts_from gathered (line ∷ lines) ≡ parts_from (gathered ++ line ∷ []) lines
parts_gathered gathered line lines e = rw e refl

-- no directive is the last part
pub some_first : {A : Type 0} (x : A) (xs : List A) → x ∷ xs ≢ []
some_first x xs e = cc

some_more : {A : Type 0} (xs : List A) (x : A) (ys : List A) → xs ++ x ∷ ys ≢ []
some_more [] x ys = some_first x ys
some_more (y ∷ xs) x ys = some_first y (xs ++ x ∷ ys)

some_parts : (lines : List (List ℕ)) (before : List Part) → before ++ parts_from [] lines ≢ []
some_parts lines before =
    let p = parts_begin [] lines in
    subst (λ (ps : List Part). before ++ ps ≢ []) (sym p.2) (some_more before (Message p.0) p.1)

-- the script stops in the message before a directive
pub stops_at_message : (gathered : List (List ℕ)) (line : List ℕ) (lines : List (List ℕ)) (a : Standing) (d : Desk)
    (n0 n1 : Faults) (c0 c1 : Option (List ℕ)) (fault : ScriptFault) → is_directive line ≡ true
    → StopsIn (Message gathered) (course a d n0 n1 c0 c1) fault
    → Stops (parts_from gathered (line ∷ lines)) (course a d n0 n1 c0 c1) fault (λ after. after ≢ [])
stops_at_message gathered line lines a d n0 n1 c0 c1 fault e s =
    let more = DirectiveLine line ∷ parts_from [] lines in
    subst (λ (ps : List Part). Stops ps (course a d n0 n1 c0 c1) fault (λ after. after ≢ []))
    (sym (parts_directive gathered line lines e))
    (stops_more (Message gathered ∷ []) more a d n0 n1 c0 c1 fault (λ after. ⊤) (λ after. after ≢ [])
    (λ after t. some_more after (DirectiveLine line) (parts_from [] lines))
    (one_stops (Message gathered) a d n0 n1 c0 c1 fault (λ after. ⊤) s (if_begun fault (course a d n0 n1 c0 c1) ⊤ tt)))

-- the script stops in a directive
pub stops_at_order : (gathered : List (List ℕ)) (line : List ℕ) (lines : List (List ℕ)) (a b : Standing) (d : Desk)
    (m n0 n1 : Faults) (c0 c1 c2 : Option (List ℕ)) (fault : ScriptFault) → is_directive line ≡ true → m ≡ n0
    → (b ≡ part_after (Message gathered) a) × Appends c0 c1 (part_text (Message gathered) a)
    → StopsIn (DirectiveLine line) (course b d m n1 c1 c2) fault
    → Stops (parts_from gathered (line ∷ lines)) (course a d n0 n1 c0 c2) fault (λ after. after ≢ [])
stops_at_order gathered line lines a b d m n0 n1 c0 c1 c2 fault e same r s =
    subst (λ (ps : List Part). Stops ps (course a d n0 n1 c0 c2) fault (λ after. after ≢ []))
    (sym (parts_directive gathered line lines e))
    (stops_more (Message gathered ∷ DirectiveLine line ∷ []) (parts_from [] lines) a d n0 n1 c0 c2 fault (λ after. ⊤)
    (λ after. after ≢ []) (λ after t. some_parts lines after)
    (runs_then_stops (Message gathered ∷ []) (DirectiveLine line ∷ []) a b d n0 n1 c0 c1 c2 fault (λ after. ⊤)
    (one_ran (Message gathered) a b c0 c1 r)
    (one_stops (DirectiveLine line) b d n0 n1 c1 c2 fault (λ after. ⊤)
    (subst (λ (n : Faults). StopsIn (DirectiveLine line) (course b d n n1 c1 c2) fault) same s)
    (if_begun fault (course b d n0 n1 c1 c2) ⊤ tt))))

-- a run of the parts to their end
pub runs_ends : (ps : List Part) (a b : Standing) (n0 n1 : Faults) (c0 c1 : Option (List ℕ)) (end : ScriptEnd)
    → end ≡ end_of_script b.refused → Runs ps a b c0 c1 → EndsParts ps (course a b.desk n0 n1 c0 c1) (Ok end)
runs_ends ps a b n0 n1 c0 c1 end e p =
    (ap (λ (x : Standing). x.desk) p.0, e ∙ ap (λ (x : Standing). end_of_script x.refused) p.0, p.1)

pub runs_then_ends : (ps qs : List Part) (a b : Standing) (d : Desk) (n0 n1 : Faults) (c0 c1 c2 : Option (List ℕ))
    (r : Result ScriptEnd ScriptFault) → Runs ps a b c0 c1
    → EndsParts qs (course b d n0 n1 c1 c2) r → EndsParts (ps ++ qs) (course a d n0 n1 c0 c2) r
runs_then_ends ps qs a b d n0 n1 c0 c1 c2 (Err fault) p q =
    runs_then_stops ps qs a b d n0 n1 c0 c1 c2 fault (λ after. ⊤) p q
runs_then_ends ps qs a b d n0 n1 c0 c1 c2 (Ok end) p q =
    let s : after_parts (ps ++ qs) a ≡ after_parts qs b = after_append ps qs a ∙ ap (after_parts qs) (sym p.0) in (
      q.0 ∙ ap (λ (x : Standing). x.desk) (sym s),
      q.1 ∙ ap (λ (x : Standing). end_of_script x.refused) (sym s),
      subst (Appends c0 c2) (ap (λ (x : Standing). text_of ps a ++ text_of qs x) p.0 ∙ sym (text_append ps qs a))
          (Appends-trans c0 c1 c2 (text_of ps a) (text_of qs b) p.1 q.2),
    )

-- the parts of lines begin with a message
begins_at : (line : List ℕ) (lines : List (List ℕ)) (b : Bool) → is_directive line ≡ b → (message : List (List ℕ))
    × (rest : List Part) × (parts_of_lines lines ≡ Message message ∷ rest) → (message : List (List ℕ)) × (rest : List Part)
    × (parts_of_lines (line ∷ lines) ≡ Message message ∷ rest)
begins_at line lines true e r = ([], DirectiveLine line ∷ parts_of_lines lines, rw e refl)
begins_at line lines false e r = (line ∷ r.0, r.1, rw e (ap (with_line line) r.2))

begins : (lines : List (List ℕ)) → (message : List (List ℕ)) × (rest : List Part)
    × (parts_of_lines lines ≡ Message message ∷ rest)
begins [] = ([], [], refl)
begins (line ∷ lines) = begins_at line lines (is_directive line) refl (begins lines)

-- lines at the front of the first message
abbrev with_lines : List (List ℕ) → List Part → List Part
with_lines gathered (Message lines ∷ parts) = Message (gathered ++ lines) ∷ parts
with_lines gathered parts = Message gathered ∷ parts

with_none : (lines : List (List ℕ)) → with_lines [] (parts_of_lines lines) ≡ parts_of_lines lines
with_none lines = let r = begins lines in ap (with_lines []) r.2 ∙ sym r.2

with_one_more : (gathered : List (List ℕ)) (line : List ℕ) (lines : List (List ℕ))
    → with_lines (gathered ++ line ∷ []) (parts_of_lines lines) ≡ with_lines gathered (with_line line (parts_of_lines lines))
with_one_more gathered line lines =
    let r = begins lines in
    ap (with_lines (gathered ++ line ∷ [])) r.2
    ∙ (ap (λ (w : List (List ℕ)). Message w ∷ r.1) (append_assoc gathered (line ∷ []) r.0)
    ∙ sym (ap (λ (ps : List Part). with_lines gathered (with_line line ps)) r.2))

from_line : (gathered : List (List ℕ)) (line : List ℕ) (lines : List (List ℕ)) (b : Bool) → is_directive line ≡ b
    → parts_from [] lines ≡ with_lines [] (parts_of_lines lines)
    → parts_from (gathered ++ line ∷ []) lines ≡ with_lines (gathered ++ line ∷ []) (parts_of_lines lines)
    → parts_from gathered (line ∷ lines) ≡ with_lines gathered (parts_of_lines (line ∷ lines))
from_line gathered line lines true e none more =
    rw e (ap (λ (ps : List Part). Message gathered ∷ DirectiveLine line ∷ ps) (none ∙ with_none lines)
    ∙ ap (λ (w : List (List ℕ)). Message w ∷ DirectiveLine line ∷ parts_of_lines lines) (sym (append-nil gathered)))
from_line gathered line lines false e none more = rw e (more ∙ with_one_more gathered line lines)

from_gathered : (gathered lines : List (List ℕ)) → parts_from gathered lines ≡ with_lines gathered (parts_of_lines lines)
from_gathered gathered [] = ap (λ (w : List (List ℕ)). Message w ∷ []) (sym (append-nil gathered))
from_gathered gathered (line ∷ lines) =
    from_line gathered line lines (is_directive line) refl (from_gathered [] lines) (from_gathered (gathered ++ line ∷ []) lines)

-- the parts of all lines
pub from_start : (lines : List (List ℕ)) → parts_from [] lines ≡ parts_of_lines lines
from_start lines = from_gathered [] lines ∙ with_none lines
