use Rattle.std.proofs.Common.{◌≡◌, ℕ, ◌≤◌, ◌-◌, List, [], ◌∷◌, ◌++◌, length, get_or, take, drop, refl, ap, ◌∙◌, arith, length-drop}
use Rattle.std.proofs.lemmas.List.{append_assoc, append-nil, take_all}
use Rattle.std.specs.Fmt.{decimal}
use Rattle.std.proofs.Transfers.{starts_with_trans}
use Rattle.desk_text.specs.Texts.{numbers_text}
use Rattle.desk_text.proofs.Appends.{front_more, none_left, same_front, stopped}
use Rattle.desk_text.proofs.texts.append_numbers.Goals as goal

-- the text of the first number, and of those behind it
first : (rest : List ℕ) → 1 ≤ length rest → numbers_text (get_or rest 0 0 ∷ []) ++ numbers_text (drop 1 rest) ≡ numbers_text rest
first [] few = absurd (omega (arith, few))
first (n ∷ ns) few = ap (λ w. w ++ numbers_text ns) (append-nil (32 ∷ decimal n))

-- the text of the first four numbers, and of those behind them
first_four : (rest : List ℕ) → 4 ≤ length rest → numbers_text (get_or rest 0 0 ∷ get_or rest 1 0 ∷ get_or rest 2 0 ∷ get_or rest 3 0 ∷ []) ++ numbers_text (drop 4 rest) ≡ numbers_text rest
first_four [] few = absurd (omega (arith, few))
first_four (a ∷ []) few = absurd (omega (arith, few))
first_four (a ∷ b ∷ []) few = absurd (omega (arith, few))
first_four (a ∷ b ∷ c ∷ []) few = absurd (omega (arith, few))
first_four (a ∷ b ∷ c ∷ d ∷ ns) few = simp append_assoc

-- the text of a first part was appended
then_rest : (k : ℕ) (rest part a b c : List ℕ) → part ++ numbers_text (drop k rest) ≡ numbers_text rest → c ≡ b ++ part → b ++ numbers_text rest ≡ a → c ++ numbers_text (take (length rest - k) (drop k rest)) ≡ a
then_rest k rest part a b c whole e h =
    ap (λ ns. c ++ numbers_text ns) (take_all (length rest - k) (drop k rest) (omega (arith, length-drop k rest)))
    ∙ ap (λ w. w ++ numbers_text (drop k rest)) e ∙ append_assoc b part (numbers_text (drop k rest))
    ∙ ap (λ w. b ++ w) whole ∙ h

pub loop-rest-init : goal.loop-rest-init
loop-rest-init c =
    let a = c.args.out.now.items in
    record { text = refl; front = same_front a a refl; utf8 = λ of_a. of_a }

pub returns-in-empty : goal.returns-in-empty
returns-in-empty c =
    let l = c.loop-rest in
    record {
      ok = none_left (λ n. 32 ∷ decimal n) l.rest.now l.out.items _ c.in-empty.len_below l.invariant.text;
      err = tt;
      utf8 = l.invariant.utf8;
    }

pub returns-in_err-append_spaced-in-len1-up : goal.returns-in_err-append_spaced-in-len1-up
returns-in_err-append_spaced-in-len1-up c =
    let a = c.args.out.now.items in
    let l = c.loop-rest in
    let out = c.append_spaced.new.out.items in
    stopped c.from_residual.result a (numbers_text c.args.numbers.now) out c.from_residual.ensures.0
    (starts_with_trans out l.out.items a (same_front l.out.items out c.in_err-append_spaced-in-len1-up.ensures.err)
    l.invariant.front)
    (λ of_a. c.append_spaced.ensures.utf8 (l.invariant.utf8 of_a))

pub returns-in_err-append_four-in-len4-up : goal.returns-in_err-append_four-in-len4-up
returns-in_err-append_four-in-len4-up c =
    let a = c.args.out.now.items in
    let l = c.loop-rest in
    let out = c.append_four.new.out.items in
    stopped c.from_residual-in_err-append_four-in-len4-up.result a (numbers_text c.args.numbers.now) out
    c.from_residual-in_err-append_four-in-len4-up.ensures.0
    (starts_with_trans out l.out.items a (same_front l.out.items out c.in_err-append_four-in-len4-up.ensures.err)
    l.invariant.front)
    (λ of_a. c.append_four.ensures.utf8 (l.invariant.utf8 of_a))

pub loop-rest-preserved-then-rest-lt4 : goal.loop-rest-preserved-then-rest-lt4
loop-rest-preserved-then-rest-lt4 c =
    let l = c.loop-rest in
    let rest = l.rest.now in
    let part = numbers_text (get_or rest 0 0 ∷ []) in
    let out = c.append_spaced.new.out.items in
    let ok = c.in_ok-append_spaced-in-len1-up.ensures.ok in
    record {
      text = then_rest 1 rest part _ l.out.items out (first rest c.in-len1-up.len_at_least) ok l.invariant.text;
      front = front_more c.args.out.now.items l.out.items out part l.invariant.front ok;
      utf8 = λ of_a. c.append_spaced.ensures.utf8 (l.invariant.utf8 of_a);
    }

pub loop-rest-preserved : goal.loop-rest-preserved
loop-rest-preserved c =
    let l = c.loop-rest in
    let rest = l.rest.now in
    let part = numbers_text (get_or rest 0 0 ∷ get_or rest 1 0 ∷ get_or rest 2 0 ∷ get_or rest 3 0 ∷ []) in
    let out = c.append_four.new.out.items in
    let ok = c.in_ok-append_four-in-len4-up.ensures.ok in
    record {
      text = then_rest 4 rest part _ l.out.items out (first_four rest c.in-len4-up.len_at_least) ok l.invariant.text;
      front = front_more c.args.out.now.items l.out.items out part l.invariant.front ok;
      utf8 = λ of_a. c.append_four.ensures.utf8 (l.invariant.utf8 of_a);
    }
