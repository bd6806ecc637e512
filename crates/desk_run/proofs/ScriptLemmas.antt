-- A script, from the lines that are left.
use Rattle.std.proofs.Common.{◌≡◌, inl, inr, ℕ, ◌+◌, List, [], ◌∷◌, ◌++◌, length, map, sym, ◌∙◌, ap, subst, refl, arith, Option, Some}
use Rattle.std.proofs.Common.{Result, Ok, Err, append_assoc, append-nil, length-append, ◌⊎◌, Bool, true, false, take}
use Rattle.std.specs.Prelude.{◌≢◌, ⊤}
use Rattle.std.specs.Result.{OnOk}
use Rattle.std.specs.Io.KnownBytes.{Appends}
use Rattle.std.proofs.KnownBytes.{Appends-trans}
use Rattle.bug_record.specs.Desk.{Desk}
use Rattle.base_faults.specs.declared.store_fault.StoreFault.TheVariants as faults
use Rattle.store_contract.specs.Store.{Faults}
use Rattle.control_lines.specs.Lines.{without_return, raw_lines, lines_of}
use Rattle.control_lines.specs.Reading.{IsGoodLine, IsLineFault, IsReadingFault, IsBegun, Known, Left}
use Rattle.desk_run.specs.Script.{Part, Message, DirectiveLine, Standing, is_directive, parts_of_lines, script_of, text_of, after_parts}
use Rattle.desk_run.specs.Gathering.{parts_from}
use Rattle.desk_run.specs.Running.{Ends, AreGood, Place, IsMessage, IsCutShort, StoppedReading, StoppedInPart}
use Rattle.desk_run.specs.Running.{IsReadInPart, IsCounted}
use Rattle.desk_run.specs.Stopping.{IsUnbegun, StopsIn, IfBegun, Stops}
use Rattle.desk_run.specs.Carrying.{Runs, EndsParts}
use Rattle.control_lines.specs.declared.fault.ScriptFault.{ScriptFault}
use Rattle.control_lines.specs.declared.fault.ScriptFault.TheVariants as stops
use Rattle.desk_run.specs.declared.script.ScriptEnd.{ScriptEnd}
use Rattle.desk_run.proofs.WrittenLemmas.{course, untold_so}
use Rattle.desk_run.proofs.RunLemmas.{runs_then_stops, runs_then_ends, some_first, runs_none, from_start, stops_so}

map_append : {A B : Type 0} (f : A → B) (xs ys : List A) → map f (xs ++ ys) ≡ map f xs ++ map f ys
map_append f [] ys = refl
map_append f (x ∷ xs) ys = ap (λ (w : List _). f x ∷ w) (map_append f xs ys)

length_map : {A B : Type 0} (f : A → B) (xs : List A) → length (map f xs) ≡ length xs
length_map f [] = refl
length_map f (x ∷ xs) = omega (arith, length_map f xs)

good_append : (xs ys : List (List ℕ)) → AreGood xs → AreGood ys → AreGood (xs ++ ys)
good_append [] ys p q = q
good_append (x ∷ xs) ys p q = (p.0, good_append xs ys p.1 q)

-- the input begins with good lines of these texts, and then comes the rest
pub record ReadTo (texts : List (List ℕ)) (input rest : List ℕ) : Type 0 where
  pub raws : List (List ℕ)
  pub lines : raw_lines input ≡ raws ++ raw_lines rest
  pub texts_are : map without_return raws ≡ texts
  pub good : AreGood raws

-- the lines read so far are cut into these parts, and the message so far
abbrev pub IsCut : List (List ℕ) → List Part → List (List ℕ) → Type 0
IsCut texts before gathered = (lines : List (List ℕ)) → parts_from [] (texts ++ lines) ≡ before ++ parts_from gathered lines

pub nothing_read : (input : List ℕ) → ReadTo [] input input
nothing_read input = record { raws = []; lines = refl; texts_are = refl; good = tt }

-- one line more
pub read_more : (texts : List (List ℕ)) (input rest left line : List ℕ) → ReadTo texts input rest → (raw : List ℕ)
    × (raw_lines rest ≡ raw ∷ raw_lines left) × IsGoodLine raw × (line ≡ without_return raw)
    → ReadTo (texts ++ line ∷ []) input left
read_more texts input rest left line r p = record {
  raws = r.raws ++ p.0 ∷ [];
  lines = r.lines ∙ (ap (λ (w : List (List ℕ)). r.raws ++ w) p.1 ∙ sym (append_assoc r.raws (p.0 ∷ []) (raw_lines left)));
  texts_are = map_append without_return r.raws (p.0 ∷ [])
      ∙ (ap (λ (w : List (List ℕ)). w ++ without_return p.0 ∷ []) r.texts_are ∙ ap (λ (w : List ℕ). texts ++ w ∷ []) (sym p.3));
  good = good_append r.raws (p.0 ∷ []) r.good (p.2, tt);
}

pub cut_more : (texts : List (List ℕ)) (before parts : List Part) (g h : List (List ℕ)) (line : List ℕ) → IsCut texts before g
    → ((lines : List (List ℕ)) → parts_from g (line ∷ lines) ≡ parts ++ parts_from h lines)
    → IsCut (texts ++ line ∷ []) (before ++ parts) h
cut_more texts before parts g h line c f lines =
    ap (parts_from []) (append_assoc texts (line ∷ []) lines)
    ∙ (c (line ∷ lines) ∙ (ap (λ (w : List Part). before ++ w) (f lines)
    ∙ sym (append_assoc before parts (parts_from h lines))))

-- the script, where so much is read
pub script_cut : (texts : List (List ℕ)) (before : List Part) (g : List (List ℕ)) (input rest : List ℕ) → ReadTo texts input rest
    → IsCut texts before g → script_of input ≡ before ++ parts_from g (map without_return (raw_lines rest))
unfolding script_of lines_of
script_cut texts before g input rest r c =
    sym (from_start (lines_of input))
    ∙ (ap (λ (w : List (List ℕ)). parts_from [] (map without_return w)) r.lines
    ∙ (ap (parts_from [])
    (map_append without_return r.raws (raw_lines rest)
    ∙ ap (λ (w : List (List ℕ)). w ++ map without_return (raw_lines rest)) r.texts_are)
    ∙ c (map without_return (raw_lines rest))))

-- the parts of the lines that are read
read_cut : (texts : List (List ℕ)) (tail before : List Part) (input rest : List ℕ) → (r : ReadTo texts input rest)
    → parts_from [] texts ≡ before ++ tail → parts_of_lines (map without_return r.raws) ≡ before ++ tail
read_cut texts tail before input rest r e = sym (from_start (map without_return r.raws)) ∙ (ap (parts_from []) r.texts_are ∙ e)

cut_here : (texts : List (List ℕ)) (before : List Part) (g : List (List ℕ)) → IsCut texts before g
    → parts_from [] texts ≡ before ++ Message g ∷ []
cut_here texts before g c = ap (parts_from []) (sym (append-nil texts)) ∙ c []

-- where a script stands that has read so much
abbrev place_at : (texts : List (List ℕ)) (input left : List ℕ) (before : List Part) (part : Part) (after : List Part)
    → ReadTo texts input left → parts_from [] texts ≡ before ++ part ∷ after → Place input
place_at texts input left before part after r e = record {
  lines = r.raws;
  left = left;
  read = r.lines;
  good = r.good;
  before = before;
  part = part;
  after = after;
  cut = read_cut texts (part ∷ after) before input left r e;
}

-- nothing is left
all_good : (texts : List (List ℕ)) (input rest : List ℕ) → ReadTo texts input rest → raw_lines rest ≡ []
    → AreGood (raw_lines input)
all_good texts input rest r e =
    subst AreGood (sym (r.lines ∙ (ap (λ (w : List (List ℕ)). r.raws ++ w) e ∙ append-nil r.raws))) r.good

-- the last of some parts
last_or : Part → List Part → Part
last_or p [] = p
last_or p (q ∷ ps) = last_or q ps

last_is : (x : Part) (before : List Part) (part : Part) → last_or x (before ++ part ∷ []) ≡ part
unfolding last_or
last_is x [] part = refl
last_is x (p ∷ before) part = last_is p before part

last_message_at : (x : Part) (gathered : List (List ℕ)) (line : List ℕ) (lines : List (List ℕ)) (b : Bool) → is_directive line ≡ b
    → IsMessage (last_or (DirectiveLine line) (parts_from [] lines))
    → IsMessage (last_or x (parts_from (gathered ++ line ∷ []) lines)) → IsMessage (last_or x (parts_from gathered (line ∷ lines)))
unfolding last_or
last_message_at x gathered line lines true e after more = rw e after
last_message_at x gathered line lines false e after more = rw e more

last_message : (x : Part) (gathered lines : List (List ℕ)) → IsMessage (last_or x (parts_from gathered lines))
unfolding last_or
last_message x gathered [] = tt
last_message x gathered (line ∷ lines) =
    last_message_at x gathered line lines (is_directive line) refl (last_message (DirectiveLine line) [] lines)
    (last_message x (gathered ++ line ∷ []) lines)

-- the part that the lines end with is a message
ends_with_message : (texts : List (List ℕ)) (before : List Part) (part : Part) → parts_from [] texts ≡ before ++ part ∷ [] → IsMessage part
ends_with_message texts before part e =
    subst IsMessage (ap (last_or part) e ∙ last_is part before part) (last_message part [] texts)

-- a stop of the reading
pub stops_reading : (texts : List (List ℕ)) (before : List Part) (g : List (List ℕ)) (input left : List ℕ)
    (rest : Option (List ℕ)) (number : ℕ) (a b : Standing) (d : Desk) (n0 n1 : Faults) (c0 c1 : Option (List ℕ))
    (fault : ScriptFault) → ReadTo texts input left → IsCut texts before g → Runs before a b c0 c1 → d ≡ b.desk → n1 ≡ n0
    → length texts + 1 ≡ number → IsLineFault number fault left → Ends input rest (course a d n0 n1 c0 c1) (Err fault)
stops_reading texts before g input left rest number a b d n0 n1 c0 c1 fault r c ran same uncounted n f =
    inl (record {
      place = place_at texts input left before (Message g) [] r (cut_here texts before g c);
      gathered = (tt, refl);
      carried = record { desk = same ∙ ap (λ (s : Standing). s.desk) ran.0; faults = uncounted; texts = ran.1 };
      next = subst (λ (k : ℕ). IsLineFault k fault left)
          (sym n ∙ ap (λ (k : ℕ). k + 1) (ap length (sym r.texts_are) ∙ length_map without_return r.raws)) f;
    })

-- out of memory before the part that the lines end with was begun
stops_unbegun : (texts : List (List ℕ)) (input left : List ℕ) (a : Standing) (d : Desk) (n0 n1 : Faults)
    (c0 between c2 : Option (List ℕ)) (before : List Part) (part : Part) → ReadTo texts input left
    → parts_from [] texts ≡ before ++ part ∷ [] → Appends c0 between (text_of before a)
    → IsUnbegun (course (after_parts before a) d n0 n1 between c2) → StoppedReading input (course a d n0 n1 c0 c2) stops.Memory
stops_unbegun texts input left a d n0 n1 c0 between c2 before part r e ran none = record {
  place = place_at texts input left before part [] r e;
  gathered = (ends_with_message texts before part e, refl);
  carried = record {
    desk = none.0;
    faults = none.1;
    texts = subst (Appends c0 c2) (append-nil (text_of before a))
        (Appends-trans c0 between c2 (text_of before a) [] ran none.2);
  };
  next = tt;
}

-- a part that was cut short, of the lines that are read
stops_part : (texts : List (List ℕ)) (input left unused untaken : List ℕ) (rest : Option (List ℕ)) (a : Standing) (d : Desk)
    (n0 n1 : Faults) (c0 between c2 : Option (List ℕ)) (fault : ScriptFault) (before : List Part) (part : Part) (after : List Part)
    (written : List ℕ) → ReadTo texts input left → left ≡ unused ++ untaken → rest ≡ Some untaken
    → parts_from [] texts ≡ before ++ part ∷ after → Appends c0 between (text_of before a)
    → (after ≢ []) ⊎ (left ≡ []) → IsCutShort part (course (after_parts before a) d n0 n1 c0 c2) fault written
    → Appends between c2 written → StoppedInPart input rest (course a d n0 n1 c0 c2) fault
stops_part texts input left unused untaken rest a d n0 n1 c0 between c2 fault before part after written r is_left is_untaken e ran done short wrote =
    record {
      place = place_at texts input left before part after r e;
      finished = record { unused = unused; untaken = untaken; is_left = is_left; is_untaken = is_untaken; finished = done };
      written = written;
      cut_short = short;
      texts = Appends-trans c0 between c2 (text_of before a) written ran wrote;
    }

-- out of memory in a part of the lines that are read
stops_for_memory : (texts : List (List ℕ)) (input left unused untaken : List ℕ) (rest : Option (List ℕ)) (a : Standing) (d : Desk)
    (n0 n1 : Faults) (c0 between c2 : Option (List ℕ)) (before : List Part) (part : Part) (after : List Part)
    → ReadTo texts input left → left ≡ unused ++ untaken → rest ≡ Some untaken
    → parts_from [] texts ≡ before ++ part ∷ after → Appends c0 between (text_of before a)
    → StopsIn part (course (after_parts before a) d n0 n1 between c2) stops.Memory
    → IfBegun stops.Memory (course (after_parts before a) d n0 n1 between c2) ((after ≢ []) ⊎ (left ≡ []))
    → Ends input rest (course a d n0 n1 c0 c2) (Err stops.Memory)
stops_for_memory texts input left unused untaken rest a d n0 n1 c0 between c2 before part [] r f g e ran did (inl none) =
    inl (stops_unbegun texts input left a d n0 n1 c0 between c2 before part r e ran none)
stops_for_memory texts input left unused untaken rest a d n0 n1 c0 between c2 before part (x ∷ after) r f g e ran did (inl none) =
    inr (stops_part texts input left unused untaken rest a d n0 n1 c0 between c2 stops.Memory before part (x ∷ after) [] r f g e ran
    (inl (some_first x after)) (inl (none.0, none.1), refl) none.2)
stops_for_memory texts input left unused untaken rest a d n0 n1 c0 between c2 before part after r f g e ran (inl none) (inr done) =
    inr (stops_part texts input left unused untaken rest a d n0 n1 c0 between c2 stops.Memory before part after [] r f g e ran
    done (inl (none.0, none.1), refl) none.2)
stops_for_memory texts input left unused untaken rest a d n0 n1 c0 between c2 before part after r f g e ran (inr told) (inr done) =
    inr (stops_part texts input left unused untaken rest a d n0 n1 c0 between c2 stops.Memory before part after [] r f g e ran
    done (inr (untold_so part (after_parts before a) d n0 n1 between c2 c0 c2 told.0), refl) told.1)

-- a stop in a part of the lines that are read
stops_in : (texts : List (List ℕ)) (input left unused untaken : List ℕ) (rest : Option (List ℕ)) (a : Standing) (d : Desk)
    (n0 n1 : Faults) (c0 c2 : Option (List ℕ)) (fault : ScriptFault) → ReadTo texts input left → left ≡ unused ++ untaken
    → rest ≡ Some untaken
    → Stops (parts_from [] texts) (course a d n0 n1 c0 c2) fault (λ after. (after ≢ []) ⊎ (left ≡ []))
    → Ends input rest (course a d n0 n1 c0 c2) (Err fault)
stops_in texts input left unused untaken rest a d n0 n1 c0 c2 (stops.Store fault) r f g s =
    inr (stops_part texts input left unused untaken rest a d n0 n1 c0 s.between c2 (stops.Store fault) s.before s.part s.after s.stops.0
    r f g s.split s.ran s.begun (s.stops.1, s.stops.2) s.stops.3)
stops_in texts input left unused untaken rest a d n0 n1 c0 c2 stops.Write r f g s =
    inr (stops_part texts input left unused untaken rest a d n0 n1 c0 s.between c2 stops.Write s.before s.part s.after
    (take s.stops.1 s.stops.0) r f g s.split s.ran s.begun (s.stops.0, s.stops.1, s.stops.2, s.stops.3, refl) s.stops.4)
stops_in texts input left unused untaken rest a d n0 n1 c0 c2 stops.Memory r f g s =
    stops_for_memory texts input left unused untaken rest a d n0 n1 c0 s.between c2 s.before s.part s.after r f g s.split s.ran
    s.stops s.begun
stops_in texts input left unused untaken rest a d n0 n1 c0 c2 stops.Read r f g s = absurd s.stops
stops_in texts input left unused untaken rest a d n0 n1 c0 c2 (stops.NotUtf8 line) r f g s = absurd s.stops
stops_in texts input left unused untaken rest a d n0 n1 c0 c2 (stops.LineTooLong line) r f g s = absurd s.stops

-- the same, where the parts of the lines are those that were carried out and some more
stops_after : (texts : List (List ℕ)) (before tail : List Part) (input left unused untaken : List ℕ) (rest : Option (List ℕ))
    (a b : Standing) (d : Desk) (n0 n1 : Faults) (c0 c1 c2 : Option (List ℕ)) (fault : ScriptFault) → ReadTo texts input left
    → left ≡ unused ++ untaken → rest ≡ Some untaken → parts_from [] texts ≡ before ++ tail → Runs before a b c0 c1
    → Stops tail (course b d n0 n1 c1 c2) fault (λ after. (after ≢ []) ⊎ (left ≡ []))
    → Ends input rest (course a d n0 n1 c0 c2) (Err fault)
stops_after texts before tail input left unused untaken rest a b d n0 n1 c0 c1 c2 fault r f g e ran s =
    stops_in texts input left unused untaken rest a d n0 n1 c0 c2 fault r f g
    (subst (λ (ps : List Part). Stops ps (course a d n0 n1 c0 c2) fault (λ after. (after ≢ []) ⊎ (left ≡ []))) (sym e)
    (runs_then_stops before tail a b d n0 n1 c0 c1 c2 fault (λ after. (after ≢ []) ⊎ (left ≡ [])) ran s))

-- the end of the input
pub ends_at : (texts : List (List ℕ)) (before : List Part) (g : List (List ℕ)) (input unused untaken : List ℕ)
    (rest : Option (List ℕ)) (a b : Standing) (d : Desk) (m n0 n1 : Faults) (c0 c1 c2 : Option (List ℕ))
    (r : Result ScriptEnd ScriptFault) → ReadTo texts input (unused ++ untaken) → rest ≡ Some untaken
    → unused ++ untaken ≡ [] → IsCut texts before g → Runs before a b c0 c1
    → m ≡ n0 → IsCounted r m n1 → EndsParts (Message g ∷ []) (course b d m n1 c1 c2) r
    → Ends input rest (course a d n0 n1 c0 c2) r
ends_at texts before g input unused untaken rest a b d m n0 n1 c0 c1 c2 (Ok end) r f e c ran same counted ends =
    let cut = script_cut texts before g input (unused ++ untaken) r c
    ∙ ap (λ (w : List ℕ). before ++ parts_from g (map without_return (raw_lines w))) e in
    let all = subst (λ (ps : List Part). EndsParts ps (course a d n0 n1 c0 c2) (Ok end)) (sym cut)
    (runs_then_ends before (Message g ∷ []) a b d n0 n1 c0 c1 c2 (Ok end) ran ends) in
    record {
      good = all_good texts input (unused ++ untaken) r (ap raw_lines e);
      carried = record { desk = all.0; faults = counted ∙ same; texts = all.2 };
      says = all.1;
    }
ends_at texts before g input unused untaken rest a b d m n0 n1 c0 c1 c2 (Err fault) r f e c ran same counted ends =
    stops_after texts before (Message g ∷ []) input (unused ++ untaken) unused untaken rest a b d n0 n1 c0 c1 c2 fault r refl f
    (cut_here texts before g c) ran
    (stops_so (Message g ∷ []) (course b d n0 n1 c1 c2) fault (λ after. ⊤) (λ after. (after ≢ []) ⊎ (unused ++ untaken ≡ []))
    (λ after t. inr e)
    (subst (λ (n : Faults). Stops (Message g ∷ []) (course b d n n1 c1 c2) fault (λ after. ⊤)) same ends))

-- nothing read, out of memory
pub stops_at_once : (input : List ℕ) (rest : Option (List ℕ)) (a : Standing) (n : Faults) (c : Option (List ℕ))
    → Ends input rest (course a a.desk n n c c) (Err stops.Memory)
stops_at_once input rest a n c =
    stops_reading [] [] [] input input rest 1 a a a.desk n n c c stops.Memory (nothing_read input) (λ lines. refl)
    (runs_none a c) refl refl refl tt

-- a fault of the reading is none of the store
pub reading_counted : (T : Type 0) (number : ℕ) (fault : ScriptFault) (n m : Faults) → IsReadingFault number fault → m ≡ n
    → IsCounted {T = T} (Err fault) n m
reading_counted T number stops.Read n m o e = e
reading_counted T number stops.Memory n m o e = (faults.Memory, e)
reading_counted T number (stops.NotUtf8 line) n m o e = e
reading_counted T number (stops.LineTooLong line) n m o e = e
reading_counted T number stops.Write n m o e = absurd o
reading_counted T number (stops.Store fault) n m o e = absurd o

pub left_more : {a b c : Option (List ℕ)} {P Q R : List ℕ → List ℕ → Type 0} → Left a b P → Left b c Q
    → ((xs ys zs : List ℕ) → P xs ys → Q ys zs → R xs zs) → Left a c R
left_more p q f = record { known = λ xs e. let u = p.known xs e in let v = q.known u.0 u.1 in (v.0, v.1, f xs u.0 v.0 u.2 v.2) }

-- a failed read, after whole lines
pub read_in_part : {a b c : Option (List ℕ)} (texts : List (List ℕ)) (s t : List ℕ) → t ≡ []
    → Left a b (λ xs ys. ReadTo texts xs (s ++ ys)) → Left b c (λ ys zs. IsBegun (s ++ ys) (t ++ zs)) → Left a c IsReadInPart
read_in_part texts s t none p q = left_more p q (λ xs ys zs r b. record {
  good = r.raws;
  left = s ++ ys;
  lines = r.lines;
  are_good = r.good;
  begun = subst (λ (w : List ℕ). IsBegun (s ++ ys) (w ++ zs)) none b;
})

pub left_same : (a : Option (List ℕ)) {P : List ℕ → List ℕ → Type 0} → ((xs : List ℕ) → P xs xs) → Left a a P
left_same a f = record { known = λ xs e. (xs, e, f xs) }

-- what is known of what is left is known of the whole
pub known_before : {a b : Option (List ℕ)} {P : List ℕ → List ℕ → Type 0} {Q R : List ℕ → Type 0} → Left a b P → Known b Q
    → ((xs ys : List ℕ) → P xs ys → Q ys → R xs) → Known a R
known_before p q f = record { known = λ xs e. let u = p.known xs e in f xs u.0 u.2 (q.known u.0 u.1) }

pub known_of : {a b : Option (List ℕ)} {P : List ℕ → List ℕ → Type 0} {R : List ℕ → Type 0} → Left a b P
    → ((xs ys : List ℕ) → P xs ys → R xs) → Known a R
known_of p f = record { known = λ xs e. let u = p.known xs e in f xs u.0 u.2 }

pub none_right : (xs ys : List ℕ) → xs ++ ys ≡ [] → ys ≡ []
none_right [] ys e = e
none_right (x ∷ xs) ys e = cc

pub on_ok : {T E P : Type 0} (r : Result T E) → P → OnOk r P
on_ok (Ok x) p = p
on_ok (Err e) p = tt

pub no_lines_left : (line : List ℕ) (all rest : List ℕ) → (raw : List ℕ) × (raw_lines all ≡ raw ∷ []) × IsGoodLine raw
    × (line ≡ without_return raw) × (rest ≡ []) → (raw : List ℕ) × (raw_lines all ≡ raw ∷ raw_lines rest) × IsGoodLine raw
    × (line ≡ without_return raw)
no_lines_left line all rest p = (p.0, p.1 ∙ ap (λ (w : List ℕ). p.0 ∷ raw_lines w) (sym p.4), p.2, p.3)

-- what a line gives
abbrev pub IsNextLine : List ℕ → List ℕ → List ℕ → Type 0
IsNextLine line all rest = (raw : List ℕ) × (raw_lines all ≡ raw ∷ raw_lines rest) × IsGoodLine raw × (line ≡ without_return raw)

-- a stop in a line that was read
pub stops_in_line : {r0 r1 r2 : Option (List ℕ)} (texts : List (List ℕ)) (before : List Part) (g : List (List ℕ))
    (source unused line : List ℕ) (a b : Standing) (d : Desk) (m n0 n1 : Faults) (c0 c1 c2 : Option (List ℕ))
    (fault : ScriptFault) → m ≡ n0 → Left r0 r1 (λ xs ys. ReadTo texts xs (source ++ ys))
    → Left r1 r2 (λ ys zs. IsNextLine line (source ++ ys) (unused ++ zs)) → IsCut texts before g → Runs before a b c0 c1
    → ((lines : List (List ℕ)) → Stops (parts_from g (line ∷ lines)) (course b d m n1 c1 c2) fault (λ after. after ≢ []))
    → Known r0 (λ xs. Ends xs r2 (course a d n0 n1 c0 c2) (Err fault))
stops_in_line {r2 = r2} texts before g source unused line a b d m n0 n1 c0 c1 c2 fault same read piece c ran stop = record {
  known = λ xs e.
      let u = read.known xs e in
      let v = piece.known u.0 u.1 in
      let left = unused ++ v.0 in
      stops_after (texts ++ line ∷ []) before (parts_from g (line ∷ [])) xs left unused v.0 r2 a b d n0 n1 c0 c1 c2 fault
      (read_more texts xs (source ++ u.0) left line u.2 v.2) refl v.1 (c (line ∷ [])) ran
      (stops_so (parts_from g (line ∷ [])) (course b d n0 n1 c1 c2) fault (λ after. after ≢ []) (λ after. (after ≢ []) ⊎ (left ≡ []))
      (λ after some. inl some)
      (subst (λ (n : Faults). Stops (parts_from g (line ∷ [])) (course b d n n1 c1 c2) fault (λ after. after ≢ [])) same (stop [])));
}

-- the last line, as one that is read
pub last_line : {r1 r2 : Option (List ℕ)} (source rest line : List ℕ)
    → Left r1 r2 (λ ys zs. (raw : List ℕ) × (raw_lines (source ++ ys) ≡ raw ∷ []) × IsGoodLine raw × (line ≡ without_return raw)
    × (rest ++ zs ≡ [])) → Left r1 r2 (λ ys zs. IsNextLine line (source ++ ys) (rest ++ zs))
last_line source rest line p =
    record { known = λ ys e. let u = p.known ys e in (u.0, u.1, no_lines_left line (source ++ ys) (rest ++ u.0) u.2) }

-- the end of the input, after its last line
pub ends_at_last : {r0 r1 r2 : Option (List ℕ)} (texts : List (List ℕ)) (before parts : List Part) (g h : List (List ℕ))
    (source unused line : List ℕ) (a b : Standing) (d : Desk) (m n0 n1 : Faults) (c0 c1 c2 : Option (List ℕ))
    (r : Result ScriptEnd ScriptFault) → Left r0 r1 (λ xs ys. ReadTo texts xs (source ++ ys))
    → Left r1 r2 (λ ys zs. (raw : List ℕ) × (raw_lines (source ++ ys) ≡ raw ∷ []) × IsGoodLine raw × (line ≡ without_return raw)
    × (unused ++ zs ≡ [])) → IsCut texts before g
    → ((lines : List (List ℕ)) → parts_from g (line ∷ lines) ≡ parts ++ parts_from h lines) → Runs (before ++ parts) a b c0 c1
    → m ≡ n0 → IsCounted r m n1 → EndsParts (Message h ∷ []) (course b d m n1 c1 c2) r
    → Known r0 (λ xs. Ends xs r2 (course a d n0 n1 c0 c2) r)
ends_at_last {r2 = r2} texts before parts g h source unused line a b d m n0 n1 c0 c1 c2 r read piece c f ran same counted ends = record {
  known = λ xs e.
      let u = read.known xs e in
      let v = piece.known u.0 u.1 in
      let p = v.2 in
      ends_at (texts ++ line ∷ []) (before ++ parts) h xs unused v.0 r2 a b d m n0 n1 c0 c1 c2 r
      (read_more texts xs (source ++ u.0) (unused ++ v.0) line u.2 (no_lines_left line (source ++ u.0) (unused ++ v.0) p))
      v.1 p.4 (cut_more texts before parts g h line c f) ran same counted ends;
}

-- nothing is left, either way
read_end : (texts : List (List ℕ)) (input rest left : List ℕ) → ReadTo texts input rest → raw_lines rest ≡ [] → left ≡ []
    → ReadTo texts input left
read_end texts input rest left r e none = record {
  raws = r.raws;
  lines = r.lines ∙ ap (λ (w : List (List ℕ)). r.raws ++ w) (e ∙ sym (ap raw_lines none));
  texts_are = r.texts_are;
  good = r.good;
}

-- the end of the input, after its line feed
pub ends_at_end : {r0 r1 r2 : Option (List ℕ)} (texts : List (List ℕ)) (before : List Part) (g : List (List ℕ))
    (source unused : List ℕ) (a b : Standing) (d : Desk) (m n0 n1 : Faults) (c0 c1 c2 : Option (List ℕ))
    (r : Result ScriptEnd ScriptFault) → Left r0 r1 (λ xs ys. ReadTo texts xs (source ++ ys))
    → Left r1 r2 (λ ys zs. (raw_lines (source ++ ys) ≡ []) × (unused ++ zs ≡ [])) → IsCut texts before g → Runs before a b c0 c1
    → m ≡ n0 → IsCounted r m n1 → EndsParts (Message g ∷ []) (course b d m n1 c1 c2) r
    → Known r0 (λ xs. Ends xs r2 (course a d n0 n1 c0 c2) r)
ends_at_end {r2 = r2} texts before g source unused a b d m n0 n1 c0 c1 c2 r read piece c ran same counted ends = record {
  known = λ xs e.
      let u = read.known xs e in
      let v = piece.known u.0 u.1 in
      let left = read_end texts xs (source ++ u.0) (unused ++ v.0) u.2 v.2.0 v.2.1 in
      ends_at texts before g xs unused v.0 r2 a b d m n0 n1 c0 c1 c2 r left v.1 v.2.1 c ran same counted ends;
}

pub one_line_more : (texts : List (List ℕ)) (line : List ℕ) (number : ℕ) → length texts + 1 ≡ number
    → length (texts ++ line ∷ []) + 1 ≡ number + 1
one_line_more texts line number e = ap (λ (n : ℕ). n + 1) (length-append texts (line ∷ []) ∙ e)
