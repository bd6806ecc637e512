use Rattle.std.proofs.Common.{◌≡◌, ◌==◌, ◌+◌, ℕ, List, ◌++◌, Bool, false, true, length, Option, Some, None, refl, sym, ap, ◌∙◌}
use Rattle.std.proofs.Common.{arith, nat_lt, length-append, Bor}
use Rattle.std.specs.Prelude.{is_some}
use Rattle.std.specs.Bool.{then_some}
use Rattle.std.specs.Option.{option_copied, option_or}
use Rattle.std.proofs.lemmas.Bool.{lt-ltb, le-ltb}
use Rattle.debver.specs.Parts.{Version, parts_of, written, epoch_text, revision_text}
use Rattle.debver.specs.Faults.{has_bad_epoch, upstream_fault_at, revision_fault_at, upstream_fault, revision_fault, fault}
use Rattle.debver.specs.declared.fault.VersionFault.{VersionFault}
use Rattle.debver.specs.declared.fault.VersionFault.TheVariants.{Empty, BadEpoch, TooLong}
use Rattle.debver.proofs.fault.first_fault.Goals as goal

-- the fault, by its five parts
by_parts : (text : List ℕ) (v : Version) (a b l : Bool) (u r : Option VersionFault) → text ≡ written v
    → (length text == 0) ≡ a → has_bad_epoch v.epoch ≡ b → upstream_fault v ≡ u → revision_fault v ≡ r
    → nat_lt 100 (length text) ≡ l
    → option_or (then_some a Empty)
    (option_or (then_some b BadEpoch) (option_or u (option_or r (then_some l TooLong)))) ≡ fault v
by_parts text v a b l u r w is_empty is_bad is_upstream is_revision is_long = λ j.
    option_or (then_some ((sym is_empty ∙ ap (λ s. length s == 0) w) j) Empty)
    (option_or (then_some (sym is_bad j) BadEpoch)
    (option_or (sym is_upstream j)
    (option_or (sym is_revision j)
    (then_some ((sym is_long ∙ ap (λ s. nat_lt 100 (length s)) w) j) TooLong))))

-- the lengths of the parts
lengths : (text : List ℕ) (v : Version) → text ≡ written v
    → length (epoch_text v.epoch) + (length v.upstream + length (revision_text v.revision)) ≡ length text
lengths text v w =
    sym (ap length w ∙ length-append (epoch_text v.epoch) (v.upstream ++ revision_text v.revision)
    ∙ ap (λ n. length (epoch_text v.epoch) + n) (length-append v.upstream (revision_text v.revision)))

-- the faults of the upstream part and of the revision, where they begin
upstream_is : (v : Version) (start : ℕ) (has_epoch : Bool) → start ≡ length (epoch_text v.epoch) → has_epoch ≡ is_some v.epoch
    → upstream_fault v ≡ upstream_fault_at start has_epoch v.upstream
upstream_is v start has_epoch e f = λ j. upstream_fault_at (sym e j) (sym f j) v.upstream

revision_is : (v : Version) (start : ℕ) → start ≡ length (epoch_text v.epoch)
    → revision_fault v ≡ revision_fault_at (start + length v.upstream + 1) v.revision
revision_is v start e = ap (λ n. revision_fault_at (n + length v.upstream + 1) v.revision) (sym e)

same_some : {A : Type 0} (o : Option (Bor A)) → is_some o ≡ is_some (option_copied o)
same_some None = refl
same_some (Some x) = refl

pub returns-then-is_empty : goal.returns-then-is_empty
returns-then-is_empty c =
    let v = parts_of (option_copied c.args.epoch) c.args.upstream.now (option_copied c.args.revision) in
    by_parts c.args.text.now v true _ _ _ _ c.requires (sym c.is_empty.ensures ∙ c.if-is_empty.true) refl refl refl refl

pub returns-then-has_bad_epoch : goal.returns-then-has_bad_epoch
returns-then-has_bad_epoch c =
    let v = parts_of (option_copied c.args.epoch) c.args.upstream.now (option_copied c.args.revision) in
    by_parts c.args.text.now v false true _ _ _ c.requires (sym c.is_empty.ensures ∙ c.if-is_empty.false)
    (sym c.has_bad_epoch.ensures ∙ c.if-has_bad_epoch.true) refl refl refl

pub epoch_length-start-requires : goal.epoch_length-start-requires
epoch_length-start-requires c =
    let v = parts_of (option_copied c.args.epoch) c.args.upstream.now (option_copied c.args.revision) in
    let sum = lengths c.args.text.now v c.requires in
    omega arith

pub upstream_fault-requires : goal.upstream_fault-requires
upstream_fault-requires c =
    let v = parts_of (option_copied c.args.epoch) c.args.upstream.now (option_copied c.args.revision) in
    let sum = lengths c.args.text.now v c.requires in
    omega arith

pub revision_fault-requires : goal.revision_fault-requires
revision_fault-requires c =
    let v = parts_of (option_copied c.args.epoch) c.args.upstream.now (option_copied c.args.revision) in
    let sum = lengths c.args.text.now v c.requires in
    omega arith

pub returns-in-Some : goal.returns-in-Some
returns-in-Some c =
    let v = parts_of (option_copied c.args.epoch) c.args.upstream.now (option_copied c.args.revision) in
    by_parts c.args.text.now v false false _ (Some c.in-Some.fault) _ c.requires
    (sym c.is_empty.ensures ∙ c.if-is_empty.false) (sym c.has_bad_epoch.ensures ∙ c.if-has_bad_epoch.false)
    (upstream_is v _ _ c.epoch_length-start.ensures (c.is_some.ensures ∙ same_some c.args.epoch) ∙ sym c.upstream_fault.ensures
    ∙ c.in-Some.is) refl refl

pub returns-in-Some-revision_fault : goal.returns-in-Some-revision_fault
returns-in-Some-revision_fault c =
    let v = parts_of (option_copied c.args.epoch) c.args.upstream.now (option_copied c.args.revision) in
    by_parts c.args.text.now v false false _ None (Some c.in-Some-revision_fault.fault) c.requires
    (sym c.is_empty.ensures ∙ c.if-is_empty.false) (sym c.has_bad_epoch.ensures ∙ c.if-has_bad_epoch.false)
    (upstream_is v _ _ c.epoch_length-start.ensures (c.is_some.ensures ∙ same_some c.args.epoch) ∙ sym c.upstream_fault.ensures
    ∙ c.in_default.is)
    (revision_is v _ c.epoch_length-start.ensures ∙ sym c.revision_fault.ensures ∙ c.in-Some-revision_fault.is) refl

pub returns-then-text-gt100 : goal.returns-then-text-gt100
returns-then-text-gt100 c =
    let v = parts_of (option_copied c.args.epoch) c.args.upstream.now (option_copied c.args.revision) in
    by_parts c.args.text.now v false false true None None c.requires
    (sym c.is_empty.ensures ∙ c.if-is_empty.false) (sym c.has_bad_epoch.ensures ∙ c.if-has_bad_epoch.false)
    (upstream_is v _ _ c.epoch_length-start.ensures (c.is_some.ensures ∙ same_some c.args.epoch) ∙ sym c.upstream_fault.ensures
    ∙ c.in_default.is)
    (revision_is v _ c.epoch_length-start.ensures ∙ sym c.revision_fault.ensures ∙ c.in_default-revision_fault.is)
    (lt-ltb 100 (length c.args.text.now) c.if-text-gt100.true)

pub returns-else-text-gt100 : goal.returns-else-text-gt100
returns-else-text-gt100 c =
    let v = parts_of (option_copied c.args.epoch) c.args.upstream.now (option_copied c.args.revision) in
    by_parts c.args.text.now v false false false None None c.requires
    (sym c.is_empty.ensures ∙ c.if-is_empty.false) (sym c.has_bad_epoch.ensures ∙ c.if-has_bad_epoch.false)
    (upstream_is v _ _ c.epoch_length-start.ensures (c.is_some.ensures ∙ same_some c.args.epoch) ∙ sym c.upstream_fault.ensures
    ∙ c.in_default.is)
    (revision_is v _ c.epoch_length-start.ensures ∙ sym c.revision_fault.ensures ∙ c.in_default-revision_fault.is)
    (le-ltb 100 (length c.args.text.now) c.if-text-gt100.false)
