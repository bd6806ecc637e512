-- The strings of an array, from an item on.
use Rattle.std.proofs.Common.{◌≡◌, ℕ, suc, ◌+◌, ◌<◌, ◌≤◌, List, [], ◌∷◌, ◌++◌, length, drop, get_or, Option, Some, None, option_map}
use Rattle.std.proofs.Common.{refl, sym, ap, ◌∙◌, add-one, append_assoc, append-nil, drop-cons, drop_of_length-le}
use Rattle.serde_json.specs.Find.{as_str}
use Rattle.serde_json.specs.View.{view, items_view}
use Rattle.serde_json.specs.declared.value.Value.{Value}
use Rattle.http_routes.specs.Members.{before, strings_of}

-- the strings from the item i on, after these texts
abbrev pub texts_from : List (List ℕ) → List Value → ℕ → Option (List (List ℕ))
texts_from texts vs i = option_map (λ ss. texts ++ ss) (strings_of (items_view (drop i vs)))

joined : (texts : List (List ℕ)) (s : List ℕ) (o : Option (List (List ℕ)))
    → option_map (λ ss. texts ++ ss) (before (Some s) o) ≡ option_map (λ ss. (texts ++ s ∷ []) ++ ss) o
joined texts s None = refl
joined texts s (Some ss) = ap Some (sym (append_assoc texts (s ∷ []) ss))

-- from an item on, by what it is
by_item : (texts : List (List ℕ)) (vs : List Value) (i : ℕ) (d : Value) (o : Option (List ℕ)) → i < length vs
    → o ≡ as_str (view (get_or vs i d))
    → texts_from texts vs i ≡ option_map (λ ss. texts ++ ss) (before o (strings_of (items_view (drop (suc i) vs))))
by_item texts vs i d o h e =
    ap (λ (l : List Value). option_map (λ ss. texts ++ ss) (strings_of (items_view l))) (drop-cons vs i d h)
    ∙ ap (λ (o : Option (List ℕ)). option_map (λ ss. texts ++ ss) (before o (strings_of (items_view (drop (suc i) vs))))) (sym e)

pub strings_more : (texts : List (List ℕ)) (vs : List Value) (i : ℕ) (d : Value) (s : List ℕ) → i < length vs
    → Some s ≡ as_str (view (get_or vs i d)) → texts_from texts vs i ≡ texts_from (texts ++ s ∷ []) vs (i + 1)
strings_more texts vs i d s h e =
    by_item texts vs i d (Some s) h e
    ∙ joined texts s (strings_of (items_view (drop (suc i) vs)))
    ∙ ap (texts_from (texts ++ s ∷ []) vs) (sym (add-one i))

pub strings_none : (texts : List (List ℕ)) (vs : List Value) (i : ℕ) (d : Value) → i < length vs
    → None ≡ as_str (view (get_or vs i d)) → texts_from texts vs i ≡ None
strings_none texts vs i d h e = by_item texts vs i d None h e

pub strings_end : (texts : List (List ℕ)) (vs : List Value) (i : ℕ) → length vs ≤ i → texts_from texts vs i ≡ Some texts
strings_end texts vs i h =
    ap (λ (l : List Value). option_map (λ ss. texts ++ ss) (strings_of (items_view l))) (drop_of_length-le vs h)
    ∙ ap Some (append-nil texts)
