-- What a match gives, one form of pattern at a time.
use Rattle.std.specs.Prelude.{◌≡◌, ℕ, zero, suc, ◌+◌, ◌<◌, ◌≤◌, Bool, true, false, List, [], ◌∷◌, ◌++◌, length, map, take, drop, Option, Some, None, is_some, refl}
use Rattle.std.proofs.Common.{add-one, ap, sym, subst, ◌∙◌, arith, get_or}
use Rattle.std.proofs.Math.Seq.{drop-cons, take-suc}
use Rattle.std.proofs.lemmas.List.{append-nil, append_assoc, drop_all, take_all}
use Rattle.da_values.specs.declared.val.Val.{Val}
use Rattle.da_values.specs.declared.value.Value.{Value}
use Rattle.da_values.specs.declared.value.Value.TheVariants as kept
use Rattle.da_values.specs.Layer.{layer, out-val_of}
use Rattle.da_values.specs.Value.{val_of, vals}
use Rattle.da_lang.specs.declared.query.Pattern.{Pattern}
use Rattle.da_lang.specs.declared.query.Pattern.TheVariants as pattern
use Rattle.da_lang.specs.Matching.{Row, and_then, match_parts, match_tuple, matched, where_true}
use Rattle.da_lang.proofs.MatchingLaws.{match-Any, match-Bind, match-Const, match-Me, match-Equal, match-Tuple}
use Rattle.da_pattern.specs.Taken.{taken, taken_parts}
use Rattle.da_pattern.proofs.TakenAt.{taken-Tuple_of, taken_of_tuple}

-- a tuple part by part; no value of another kind matches
abbrev pub matched_tuple : ℕ → List Val → List Pattern → Value → Row → Option Row
matched_tuple me slots parts (kept.Tuple xs) row = match_parts (map (matched me slots) parts) xs row
matched_tuple me slots parts _ row = None

no_tuple : (me : ℕ) (slots : List Val) (parts : List Pattern) (v : Value) (row : Row) → ((xs : List Val) → v ≡ kept.Tuple xs → ⊥) → matched_tuple me slots parts v row ≡ None
no_tuple me slots parts (kept.Tuple xs) row other = absurd (other xs refl)
no_tuple me slots parts (kept.Int number) row other = refl
no_tuple me slots parts (kept.Bool truth) row other = refl
no_tuple me slots parts (kept.Text text) row other = refl
no_tuple me slots parts (kept.Proc process) row other = refl
no_tuple me slots parts (kept.Set elements) row other = refl

tuple_at : (me : ℕ) (slots : List Val) (row : Row) (parts : List Pattern) (v : Value) → matched me slots (pattern.Tuple parts) (val_of v) row ≡ match_tuple (map (matched me slots) parts) (layer v) row
tuple_at me slots row parts v = match-Tuple me slots (val_of v) row parts ∙ ap (λ x. match_tuple (map (matched me slots) parts) x row) (out-val_of v)

pub match-Tuple_of : (me : ℕ) (slots : List Val) (row : Row) (parts : List Pattern) (v : Value) → matched me slots (pattern.Tuple parts) (val_of v) row ≡ matched_tuple me slots parts v row
match-Tuple_of me slots row parts (kept.Int number) = tuple_at me slots row parts (kept.Int number)
match-Tuple_of me slots row parts (kept.Bool truth) = tuple_at me slots row parts (kept.Bool truth)
match-Tuple_of me slots row parts (kept.Text text) = tuple_at me slots row parts (kept.Text text)
match-Tuple_of me slots row parts (kept.Proc process) = tuple_at me slots row parts (kept.Proc process)
match-Tuple_of me slots row parts (kept.Tuple xs) = tuple_at me slots row parts (kept.Tuple xs)
match-Tuple_of me slots row parts (kept.Set xs) = tuple_at me slots row parts (kept.Set xs)

pub ruleset patterns_at = (match-Any, match-Bind, match-Const, match-Me, match-Equal, match-Tuple_of)

-- a pattern that is a tuple
module _ (me : ℕ) (slots : List Val) (row : Row) (p : Pattern) (v : Value) (parts : List Pattern) (is : p ≡ pattern.Tuple parts) where
  by_parts : matched me slots p (val_of v) row ≡ matched_tuple me slots parts v row
  by_parts = ap (λ q. matched me slots q (val_of v) row) is ∙ match-Tuple_of me slots row parts v

  pub tuple_matches : (xs : List Val) (ps : List Pattern) (ys : List Val) (b : Bool) → v ≡ kept.Tuple xs → ps ≡ parts → ys ≡ xs
      → match_parts (map (matched me slots) ps) ys row ≡ where_true b (row ++ taken_parts (map taken ps) ys)
      → matched me slots p (val_of v) row ≡ where_true b (row ++ taken p (val_of v))
  tuple_matches xs ps ys b v_is ps_is ys_is matches =
      let takes : taken p (val_of v) ≡ taken_parts (map taken ps) ys =
      ap (λ q. taken q (val_of v)) is ∙ taken-Tuple_of parts v ∙ ap (taken_of_tuple parts) v_is ∙ sym (ap (λ zs. taken_parts (map taken ps) zs) ys_is ∙ ap (λ qs. taken_parts (map taken qs) xs) ps_is) in
      by_parts ∙ ap (λ w. matched_tuple me slots parts w row) v_is
      ∙ sym (ap (λ zs. match_parts (map (matched me slots) ps) zs row) ys_is ∙ ap (λ qs. match_parts (map (matched me slots) qs) xs row) ps_is)
      ∙ matches ∙ ap (λ zs. where_true b (row ++ zs)) (sym takes)

  pub other_kind : ((xs : List Val) → v ≡ kept.Tuple xs → ⊥) → matched me slots p (val_of v) row ≡ None
  other_kind other = by_parts ∙ no_tuple me slots parts v row other

-- where there is a match
pub some_where : (found : Option Row) (b : Bool) (row : Row) → found ≡ where_true b row → b ≡ is_some found
some_where found true row is = sym (ap is_some is)
some_where found false row is = sym (ap is_some is)

-- TUPLES OF AS MANY PARTS

same_take : {A B : Type 0} (n : ℕ) (xs : List A) (ys : List B) → length xs ≡ length ys → length (take n xs) ≡ length (take n ys)
same_take zero xs ys same = refl
same_take (suc n) [] [] same = refl
same_take (suc n) [] (y ∷ ys) same = absurd (omega (arith, same))
same_take (suc n) (x ∷ xs) [] same = absurd (omega (arith, same))
same_take (suc n) (x ∷ xs) (y ∷ ys) same = let rest = same_take n xs ys (omega (arith, same)) in omega (arith, rest)

-- what one more part takes comes after
taken_more : (ps : List Pattern) (vs : List Value) (p : Pattern) (v : Value) → length ps ≡ length vs
    → taken_parts (map taken (ps ++ p ∷ [])) (vals (vs ++ v ∷ [])) ≡ taken_parts (map taken ps) (vals vs) ++ taken p (val_of v)
taken_more [] [] p v same = append-nil (taken p (val_of v))
taken_more [] (w ∷ vs) p v same = absurd (omega (arith, same))
taken_more (q ∷ ps) [] p v same = absurd (omega (arith, same))
taken_more (q ∷ ps) (w ∷ vs) p v same = ap (λ z. taken q (val_of w) ++ z) (taken_more ps vs p v (omega (arith, same))) ∙ sym (append_assoc (taken q (val_of w)) (taken_parts (map taken ps) (vals vs)) (taken p (val_of v)))

module _ (me : ℕ) (slots : List Val) (row : Row) (parts : List Pattern) (values : List Value) where
  abbrev whole : Option Row
  whole = match_parts (map (matched me slots) parts) (vals values) row

  -- the row before the part at this place
  abbrev pub row_at : ℕ → Row
  row_at place = row ++ taken_parts (map taken (take place parts)) (vals (take place values))

  -- the parts before a place match
  abbrev pub PartsFit : ℕ → Type 0
  PartsFit place = whole ≡ match_parts (map (matched me slots) (drop place parts)) (vals (drop place values)) (row_at place)

  pub none_fits : PartsFit 0
  none_fits = ap (match_parts (map (matched me slots) parts) (vals values)) (sym (append-nil row))

  none_after : (found : Option Row) (next : Row → Option Row) → ((after : Row) → next after ≡ None) → and_then found next ≡ None
  none_after None next none = refl
  none_after (Some after) next none = none after

  differ : (ps : List Pattern) (vs : List Value) (before : Row) → (length ps ≡ length vs → ⊥) → match_parts (map (matched me slots) ps) (vals vs) before ≡ None
  differ [] [] before other = absurd (other refl)
  differ [] (v ∷ vs) before other = refl
  differ (p ∷ ps) [] before other = refl
  differ (p ∷ ps) (v ∷ vs) before other =
      none_after (matched me slots p (val_of v) before) (match_parts (map (matched me slots) ps) (vals vs)) (λ after. differ ps vs after (λ same. other (omega (arith, same))))

  -- no match where there are more or fewer values
  pub parts_differ : (length parts ≡ length values → ⊥) → whole ≡ None
  parts_differ other = differ parts values row other

  module _ (same : length parts ≡ length values) (place : ℕ) (fit : PartsFit place) where
    module _ (p : Pattern) (v : Value) (inside : place < length parts) where
      abbrev part : Pattern
      part = get_or parts place p

      abbrev value : Value
      value = get_or values place v

      next : whole ≡ and_then (matched me slots part (val_of value) (row_at place)) (match_parts (map (matched me slots) (drop (place + 1) parts)) (vals (drop (place + 1) values)))
      next =
          let ps = drop-cons parts place p inside ∙ ap (λ n. part ∷ drop n parts) (sym (add-one place)) in
          let vs = drop-cons values place v (omega (arith, inside, same)) ∙ ap (λ n. value ∷ drop n values) (sym (add-one place)) in
          fit ∙ ap (λ zs. match_parts (map (matched me slots) zs) (vals (drop place values)) (row_at place)) ps
          ∙ ap (λ zs. match_parts (map (matched me slots) (part ∷ drop (place + 1) parts)) (vals zs) (row_at place)) vs

      grown : row_at (place + 1) ≡ row_at place ++ taken part (val_of value)
      grown =
          let ps = ap (λ n. take n parts) (add-one place) ∙ take-suc parts place p inside in
          let vs = ap (λ n. take n values) (add-one place) ∙ take-suc values place v (omega (arith, inside, same)) in
          ap (λ zs. row ++ taken_parts (map taken zs) (vals (take (place + 1) values))) ps
          ∙ ap (λ zs. row ++ taken_parts (map taken (take place parts ++ part ∷ [])) (vals zs)) vs
          ∙ ap (λ zs. row ++ zs) (taken_more (take place parts) (take place values) part value (same_take place parts values same))
          ∙ sym (append_assoc row (taken_parts (map taken (take place parts)) (vals (take place values))) (taken part (val_of value)))

      module _ (q : Pattern) (w : Value) (q_is : q ≡ part) (w_is : w ≡ value) (before : Row) (before_is : before ≡ row_at place) (b : Bool) (found : matched me slots q (val_of w) before ≡ where_true b (before ++ taken q (val_of w))) where
        abbrev Fits : Pattern → Value → Row → Type 0
        Fits p v row = matched me slots p (val_of v) row ≡ where_true b (row ++ taken p (val_of v))

        here : Fits part value (row_at place)
        here = subst (λ z. Fits z value (row_at place)) q_is (subst (λ z. Fits q z (row_at place)) w_is (subst (Fits q w) before_is found))

        -- the part fits, or does not
        pub one_more : b ≡ true → PartsFit (place + 1)
        one_more right =
            next ∙ ap (λ z. and_then z (match_parts (map (matched me slots) (drop (place + 1) parts)) (vals (drop (place + 1) values)))) (here ∙ ap (λ c. where_true c (row_at place ++ taken part (val_of value))) right)
            ∙ ap (match_parts (map (matched me slots) (drop (place + 1) parts)) (vals (drop (place + 1) values))) (sym grown)

        pub no_more : b ≡ false → whole ≡ None
        no_more wrong =
            next ∙ ap (λ z. and_then z (match_parts (map (matched me slots) (drop (place + 1) parts)) (vals (drop (place + 1) values)))) (here ∙ ap (λ c. where_true c (row_at place ++ taken part (val_of value))) wrong)

    -- no part is left
    pub all_fit : length parts ≤ place → whole ≡ Some (row ++ taken_parts (map taken parts) (vals values))
    all_fit end =
        fit ∙ ap (λ zs. match_parts (map (matched me slots) zs) (vals (drop place values)) (row_at place)) (drop_all place parts end)
        ∙ ap (λ zs. match_parts [] (vals zs) (row_at place)) (drop_all place values (omega (arith, end, same)))
        ∙ ap Some (ap (λ zs. row ++ taken_parts (map taken zs) (vals (take place values))) (take_all place parts end) ∙ ap (λ zs. row ++ taken_parts (map taken parts) (vals zs)) (take_all place values (omega (arith, end, same))))
