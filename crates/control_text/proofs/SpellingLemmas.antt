-- What is written of a command is read as it.
use Rattle.std.proofs.Common.{◌≡◌, ℕ, ◌+◌, ◌<◌, ◌&&◌, ◌==◌, nat_le, Bool, true, false, cond, List, [], ◌∷◌, ◌++◌, length, take}
use Rattle.std.proofs.Common.{drop, Option, Some, None, Ok, codes, refl, ap, sym, ◌∙◌, arith}
use Rattle.std.specs.Prelude.{option_map, is_none}
use Rattle.std.specs.List.{list_any, list_all, position_or_len, before_first, after_first}
use Rattle.std.specs.Option.{option_map_or, ok_or}
use Rattle.std.specs.Str.{bytes_eq}
use Rattle.std.specs.Char.{is_ascii_digit}
use Rattle.std.specs.Fmt.{decimal}
use Rattle.std.specs.Str.Parse.{digits_value}
use Rattle.std.proofs.lemmas.Bool.{cond-true, cond-false, and_parts, and_from, or_from, or_right, leb-true, le-leb, ne_eqb}
use Rattle.std.proofs.lemmas.Bool.{false≢true, false_from_ne_true}
use Rattle.std.proofs.lemmas.List.Folds.{list_any-append}
use Rattle.std.proofs.lemmas.Slice.Eq.{bytes_eq-Decides}
use Rattle.std.proofs.Math.Seq.{drop-append-add, take-append_seam}
use Rattle.debver.specs.Characters.{is_digit, is_colon}
use Rattle.debver.specs.Names.{IsName, name_fault, in_name}
use Rattle.debver.specs.Parts.{in_upstream, in_revision, epoch_text, revision_text, IsEpoch, IsRevision}
use Rattle.debver.specs.Cut.{cut, IsVersion}
use Rattle.debver.specs.Faults.{text_fault}
use Rattle.debver.proofs.CutLaws.{parts_exactly}
use Rattle.version_nodes.specs.Nodes.{Node, node, is_slash}
use Rattle.version_nodes.proofs.ReadLemmas.{nodes_exactly}
use Rattle.bug_record.specs.Severities.{severity_name, severity_of}
use Rattle.bug_record.specs.Commands.{IsGoodVersion}
use Rattle.base_words.specs.Texts.{IfGiven}
use Rattle.bug_record.specs.declared.severity.Severity.{Severity}
use Rattle.bug_record.specs.declared.severity.Severity.TheVariants as severities
use Rattle.bug_record.specs.declared.command.VersionArg.{VersionArg}
use Rattle.bug_record.specs.declared.command.Refusal.TheVariants.{Malformed, BadVersion, BadPackage}
use Rattle.base_words.specs.declared.named.Named.{Named}
use Rattle.base_words.specs.declared.named.Named.TheVariants.{Number, Name}
use Rattle.base_words.specs.Numbers.{number_of_digits, IsGoodNumber}
use Rattle.base_words.specs.Bugs.{bug_of_word, bug_of_text, IsGoodBug}
use Rattle.base_words.specs.Words.{has_bytes}
use Rattle.control_grammar.specs.Versions.{bare_version, sourced_version, version_of_word, without_src, package_of_word}
use Rattle.control_grammar.specs.Commands.{read_bug, read_version, read_package}
use Rattle.control_text.specs.Spelling.{bug_text, version_text}
use Rattle.control_parser.proofs.TextLemmas.{none-take}
use Rattle.control_parser.proofs.ReadingLemmas.{version_good}
use Rattle.control_text.proofs.PlainWords.{IsPlainWord, graphic-append, name-plain, version-plain, decimal-plain, written_is}
use Rattle.control_text.proofs.SpacedLemmas.{position-is}

-- numbers and names
number-back : (n : ℕ) → IsGoodNumber n → number_of_digits (decimal n) ≡ Some n
number-back n good =
    let w = written_is n good.most in
    let v = digits_value 10 (decimal n) in
    let value : v ≡ n = w.value in
    let least = good.least in
    let size = and_from (nat_le (length (decimal n)) 9) (nat_le 1 v) (le-leb (length (decimal n)) 9 w.short)
    (le-leb 1 v (omega arith)) in
    let test = and_from (list_all is_ascii_digit (decimal n)) (nat_le (length (decimal n)) 9 && nat_le 1 v) w.digits size in
    cond-true (list_all is_ascii_digit (decimal n) && (nat_le (length (decimal n)) 9 && nat_le 1 v)) (Some v) None test
    ∙ ap Some value

digits-back : (s : List ℕ) (n : ℕ) → 0 < length s → list_all is_ascii_digit s ≡ true → number_of_digits s ≡ Some n
    → bug_of_word s ≡ Some (Number n)
digits-back [] n some digits h = absurd (omega arith)
digits-back (c ∷ s) n some digits h =
    let q = and_parts (is_ascii_digit c) (list_all is_ascii_digit s) digits in
    let r = and_parts (nat_le 48 c) (nat_le c 57) q.0 in
    let low = leb-true 48 c r.0 in
    ap bug_of_text (cond-false (c == 35) s (c ∷ s) (ne_eqb c 35 (λ e. omega arith)))
    ∙ cond-false (c == 45) (option_map Name (number_of_digits s)) (option_map Number (number_of_digits (c ∷ s)))
    (ne_eqb c 45 (λ e. omega arith))
    ∙ ap (option_map Number) h

pub bug_word-back : (n : Named) → IsGoodBug n → bug_of_word (bug_text n) ≡ Some n
bug_word-back (Number n) good = let w = written_is n good.most in digits-back (decimal n) n w.some w.digits (number-back n good)
bug_word-back (Name k) good = ap (option_map Name) (number-back k good)

pub bug-back : (n : Named) → IsGoodBug n → read_bug (bug_text n) ≡ Ok n
bug-back n good = ap (λ o. ok_or o Malformed) (bug_word-back n good)

pub bug-plain : (n : Named) → IsGoodBug n → IsPlainWord (bug_text n)
bug-plain (Number n) good = decimal-plain n good.most
bug-plain (Name k) good = let w = decimal-plain k good.most in record { some = refl; graphic = w.graphic }

-- versions and packages
no_byte : (k : ℕ) (test : ℕ → Bool) → test k ≡ false → (s : List ℕ) → list_all test s ≡ true → list_any (λ c. c == k) s ≡ false
no_byte k test h [] e = refl
no_byte k test h (c ∷ s) e =
    let p = and_parts (test c) (list_all test s) e in
    or_from (c == k) (list_any (λ d. d == k) s) (ne_eqb c k (λ is. false≢true (sym h ∙ ap test (sym is) ∙ p.0)))
    (no_byte k test h s p.1)

none-append : (s t : List ℕ) → list_any is_slash s ≡ false → list_any is_slash t ≡ false → list_any is_slash (s ++ t) ≡ false
none-append s t h k = list_any-append is_slash s t ∙ or_from (list_any is_slash s) (list_any is_slash t) h k

epoch-slash : (e : Option (List ℕ)) → IsEpoch e → list_any is_slash (epoch_text e) ≡ false
epoch-slash None h = refl
epoch-slash (Some e) h = none-append e (58 ∷ []) (no_byte 47 is_digit refl e h.1) refl

revision-slash : (r : Option (List ℕ)) → IsRevision r → list_any is_slash (revision_text r) ≡ false
revision-slash None h = refl
revision-slash (Some r) h = no_byte 47 in_revision refl r h.1

upstream-slash : (colon : Bool) → in_upstream colon 47 ≡ false
upstream-slash true = refl
upstream-slash false = refl

version-slash : (w : List ℕ) → IsVersion w → list_any is_slash w ≡ false
version-slash w h =
    let v = cut w in
    ap (list_any is_slash) h.cut.whole
    ∙ none-append (epoch_text v.epoch) (v.upstream ++ revision_text v.revision) (epoch-slash v.epoch h.epoch)
    (none-append v.upstream (revision_text v.revision) (no_byte 47 (in_upstream _) (upstream-slash _) v.upstream h.upstream.1)
    (revision-slash v.revision h.revision))

test_is : (b : Bool) (n : Node) → cond b (Some n) None ≡ Some n → b ≡ true
test_is true n h = refl
test_is false n h = absurd (cc)

both-faultless : (s v : List ℕ) → IsName s → IsVersion v → (is_none (name_fault s) && is_none (text_fault v)) ≡ true
both-faultless s v name version =
    test_is (is_none (name_fault s) && is_none (text_fault v)) (node s v) ((nodes_exactly s v (node s v)).1 (refl, name, version))

name-faultless : (s : List ℕ) → IsName s → is_none (name_fault s) ≡ true
name-faultless s name =
    (and_parts (is_none (name_fault s)) (is_none (text_fault (codes "0")))
    (both-faultless s (codes "0") name (version_good (codes "0") refl))).0

-- the spelling of a version by its parts
abbrev sourced_text : Option (List ℕ) → List ℕ → List ℕ
sourced_text source version = option_map_or (λ s. s ++ 47 ∷ version) source version

sourced-back : (source : Option (List ℕ)) (version : List ℕ) → IfGiven IsName source → IsVersion version
    → version_of_word (sourced_text source version) ≡ Some (record { source = source; version = version })
sourced-back None version given good =
    cond-false (list_any is_slash version) (sourced_version (before_first is_slash version) (after_first is_slash version))
    (bare_version version) (version-slash version good)
    ∙ cond-true (is_none (text_fault version)) (Some (record { source = None; version = version })) None
    (ap is_none ((parts_exactly version (cut version)).0 good).1)
sourced-back (Some s) version given good =
    let w = s ++ 47 ∷ version in
    let slash : list_any is_slash w ≡ true =
    list_any-append is_slash s (47 ∷ version) ∙ or_right (list_any is_slash s) true refl in
    let at : position_or_len is_slash w ≡ length s =
    position-is is_slash s (47 ∷ version) (no_byte 47 in_name refl s given.bytes) refl in
    let before : before_first is_slash w ≡ s = ap (λ n. take n w) at ∙ take-append_seam s (47 ∷ version) in
    let after : after_first is_slash w ≡ version = ap (λ n. drop (n + 1) w) at ∙ drop-append-add s (47 ∷ version) 1 in
    cond-true (list_any is_slash w) (sourced_version (before_first is_slash w) (after_first is_slash w)) (bare_version w) slash
    ∙ ap (λ x. sourced_version x (after_first is_slash w)) before ∙ ap (sourced_version s) after
    ∙ cond-true (is_none (name_fault s) && is_none (text_fault version)) (Some (record { source = Some s; version = version }))
    None (both-faultless s version given good)

pub version-back : (v : VersionArg) → IsGoodVersion v → read_version (version_text v) ≡ Ok v
version-back v good = ap (λ o. ok_or o BadVersion) (sourced-back v.source v.version good.source good.version)

sourced-plain : (source : Option (List ℕ)) (version : List ℕ) → IfGiven IsName source → IsVersion version
    → IsPlainWord (sourced_text source version)
sourced-plain None version given good = version-plain version good
sourced-plain (Some s) version given good =
    let name = name-plain s given in
    let rest = version-plain version good in
    record { some = some-first s (47 ∷ version) name.some; graphic = graphic-append s (47 ∷ version) name.graphic rest.graphic }
  where
    some-first : (s t : List ℕ) → has_bytes s ≡ true → has_bytes (s ++ t) ≡ true
    some-first [] t h = absurd (false≢true h)
    some-first (c ∷ s) t h = refl

pub version_text-plain : (v : VersionArg) → IsGoodVersion v → IsPlainWord (version_text v)
version_text-plain v good = sourced-plain v.source v.version good.source good.version

no_src : (p : List ℕ) → IsName p → without_src p ≡ p
no_src p name =
    cond-false (bytes_eq (take 4 p) (codes "src:")) (drop 4 p) p (false_from_ne_true (bytes_eq (take 4 p) (codes "src:")) (λ e.
    let is = (bytes_eq-Decides (take 4 p) (codes "src:")).0 e in
    false≢true (sym (none-take is_colon 4 p (no_byte 58 in_name refl p name.bytes)) ∙ ap (list_any is_colon) is)))

pub package-back : (p : List ℕ) → IsName p → read_package p ≡ Ok p
package-back p name =
    let read : package_of_word p ≡ Some p
    = ap (λ q. cond (is_none (name_fault q)) (Some q) None) (no_src p name)
    ∙ cond-true (is_none (name_fault p)) (Some p) None (name-faultless p name) in
    ap (λ o. ok_or o BadPackage) read

-- severities
pub severity-back : (s : Severity) → severity_of (severity_name s) ≡ Some s
severity-back severities.Critical = refl
severity-back _ = refl

pub severity-plain : (s : Severity) → IsPlainWord (severity_name s)
severity-plain severities.Critical = record { some = refl; graphic = refl }
severity-plain _ = record { some = refl; graphic = refl }
