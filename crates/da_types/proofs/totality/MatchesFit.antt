-- What a typed pattern takes from a value of its type gives a row of the types that the pattern gives.
use Rattle.std.specs.Prelude.{◌≡◌, refl, ℕ, Bool, true, false, List, [], ◌∷◌, ◌++◌, map, Option, Some, None}
use Rattle.std.specs.List.{AllByRecursion}
use Rattle.std.specs.Ordering.{is_eq}
use Rattle.std.specs.declared.cmp.Ordering.{Ordering}
use Rattle.std.specs.declared.cmp.Ordering.TheVariants.{Less, Equal, Greater}
use Rattle.std.proofs.Common.{◌∙◌, ap, sym, subst}
use Rattle.std.proofs.lemmas.Bool.{false≢true}
use Rattle.da_values.specs.declared.val.Val.{Val, out-Val}
use Rattle.da_values.specs.declared.val.Val.TheVariants as val
use Rattle.da_values.specs.declared.val.Val.TheOpen as vo
use Rattle.da_values.specs.declared.val.Val.TheOpen.{Val-F}
use Rattle.da_values.specs.declared.value.Value.TheVariants as kept
use Rattle.da_values.specs.Order.{val_cmp}
use Rattle.da_values.specs.Value.{val_of}
use Rattle.da_values.proofs.OrderLaws.{same_from_val_cmp}
use Rattle.da_lang.specs.declared.query.Pattern.{Pattern, out-Pattern, roll-Pattern, roll-out-Pattern}
use Rattle.da_lang.specs.declared.query.Pattern.TheVariants as pa
use Rattle.da_lang.specs.declared.query.Pattern.TheOpen as po
use Rattle.da_lang.specs.declared.query.Pattern.TheOpen.{Pattern-F}
use Rattle.da_lang.specs.declared.ty.Ty.{Ty}
use Rattle.da_lang.specs.declared.ty.Ty.TheVariants as t
use Rattle.da_lang.specs.Matching.{Row, is_same, and_then, where_true, match_parts, match_tuple, matched, term_value}
use Rattle.da_lang.specs.QueryTypes.{Known, when, is_typed, each_part, literal_type, pattern_row, pattern_tag, text_pattern, term_type}
use Rattle.da_lang.specs.Shaped.{tag_of, as_tag}
use Rattle.da_lang.specs.Types.{is_of, same_type, parts_of}
use Rattle.da_lang.specs.World.{Data}
use Rattle.da_lang.proofs.MatchingLaws.{match-Any, match-Bind, match-Const, match-Me, match-Equal, match-Tuple, match-tuples}
use Rattle.da_lang.proofs.TermInduction.{pattern_induction}
use Rattle.da_lang.proofs.typing.QueryTypesAt.{pattern_row_at-Any, pattern_row_at-Bind, pattern_row_at-Const, pattern_row_at-Me, pattern_row_at-Equal, pattern_row_at-Tuple}
use Rattle.da_types.proofs.totality.KindLaws.{given_parts, tuple_type, tuple_of_type}
use Rattle.da_types.proofs.totality.Keeping.{Keeping, Fits, RowFits, row_fits, row_more}

-- the row between, where one match goes on with another
pub then_parts : (x : Option Row) (go : Row → Option Row) (r : Row) → and_then x go ≡ Some r → (s : Row) × (x ≡ Some s) × (go s ≡ Some r)
then_parts None go r e = absurd (cc)
then_parts (Some s) go r e = (s, refl, e)

pub where_parts : (b : Bool) (row r : Row) → where_true b row ≡ Some r → b ≡ true
where_parts true row r e = refl
where_parts false row r e = absurd (cc)

tied : (o : Ordering) → is_eq o ≡ true → o ≡ Equal
tied Less e = absurd (false≢true e)
tied Equal e = refl
tied Greater e = absurd (false≢true e)

pub same_is : (x y : Val) → is_same x y ≡ true → x ≡ y
same_is x y e = same_from_val_cmp x y (tied (val_cmp x y) e)

module _ (k : Keeping) (known : Known) (d : Data) where
  abbrev MatchFits : Pattern → Type 0
  MatchFits p = (ty : Ty) (types found : List Ty) (x : Val) (row r : Row) → pattern_row known p ty types ≡ Some found → Fits k ty x → RowFits k types row → matched d.me d.slots p x row ≡ Some r → RowFits k found r

  same_row : (types found : List Ty) (row r : Row) → ◌≡◌ {A = Option (List Ty)} (Some types) (Some found) → ◌≡◌ {A = Option Row} (Some row) (Some r) → RowFits k types row → RowFits k found r
  same_row types found row r e f fits =
      let a : types ≡ found = cc in
      let b : row ≡ r = cc in
      subst (λ z. RowFits k z r) a (subst (RowFits k types) b fits)

  -- a test leaves the row as it is
  tested : (b c : Bool) (types found : List Ty) (row r : Row) → when b types ≡ Some found → where_true c row ≡ Some r → RowFits k types row → RowFits k found r
  tested false c types found row r e f fits = absurd (cc)
  tested true false types found row r e f fits = absurd (cc)
  tested true true types found row r e f fits = same_row types found row r e f fits

  parts_fit : (ps : List Pattern) → AllByRecursion MatchFits ps → (tys types found : List Ty) (xs : List Val) (row r : Row) → each_part (map (pattern_row known) ps) tys types ≡ Some found → RowFits k tys xs → RowFits k types row → match_parts (map (matched d.me d.slots) ps) xs row ≡ Some r → RowFits k found r
  parts_fit [] each [] types found [] row r e fit fits f = same_row types found row r e f fits
  parts_fit [] each [] types found (x ∷ xs) row r e fit fits f = absurd fit
  parts_fit [] each (ty ∷ tys) types found xs row r e fit fits f = absurd (cc)
  parts_fit (p ∷ ps) each [] types found xs row r e fit fits f = absurd (cc)
  parts_fit (p ∷ ps) each (ty ∷ tys) types found [] row r e fit fits f = absurd fit
  parts_fit (p ∷ ps) each (ty ∷ tys) types found (x ∷ xs) row r e fit fits f =
      let (mid, is, more) = given_parts (pattern_row known p ty types) (each_part (map (pattern_row known) ps) tys) found e in
      let (s, there, rest) = then_parts (matched d.me d.slots p x row) (match_parts (map (matched d.me d.slots) ps) xs) r f in
      parts_fit ps each.1 tys mid found xs s r more fit.1 (each.0 ty types mid x row s is fit.0 fits there) rest

  tuple_case : (ps : List Pattern) → AllByRecursion MatchFits ps → MatchFits (pa.Tuple ps)
  tuple_case ps each ty types found x row r e fit fits f =
      let (tys, are, more) = given_parts (parts_of ty) (λ tys. each_part (map (pattern_row known) ps) tys types) found (sym (pattern_row_at-Tuple known ps ty types) ∙ e) in
      let made : ty ≡ t.Tuple tys = tuple_type ty tys are in
      let (xs, is, each_of) = tuple_of_type tys x (subst (λ z. is_of z x ≡ true) made fit.0) in
      let kept = k.parts xs (subst k.Kept is fit.1) in
      let m : matched d.me d.slots (pa.Tuple ps) (val.Tuple xs) row ≡ Some r = ap (λ z. matched d.me d.slots (pa.Tuple ps) z row) (sym is) ∙ f in
      parts_fit ps each tys types found xs row r more (row_fits k tys xs each_of kept) fits (sym (match-tuples d.me d.slots xs row ps) ∙ m)

  bind_case : MatchFits pa.Bind
  bind_case ty types found x row r e fit fits f =
      same_row (types ++ ty ∷ []) found (row ++ x ∷ []) r (sym (pattern_row_at-Bind known ty types) ∙ e) (sym (match-Bind d.me d.slots x row) ∙ f) (row_more k types row ty x fits fit)

  pub match_fits : (p : Pattern) → MatchFits p
  match_fits =
      pattern_induction MatchFits
      (λ ty types found x row r e fit fits f. same_row types found row r (sym (pattern_row_at-Any known ty types) ∙ e) (sym (match-Any d.me d.slots x row) ∙ f) fits)
      bind_case
      (λ c ty types found x row r e fit fits f. tested (is_typed (literal_type c) ty) (is_same x (val_of c)) types found row r (sym (pattern_row_at-Const known c ty types) ∙ e) (sym (match-Const d.me d.slots x row c) ∙ f) fits)
      (λ ty types found x row r e fit fits f. tested (same_type t.Proc ty) (is_same x (val.Proc d.me)) types found row r (sym (pattern_row_at-Me known ty types) ∙ e) (sym (match-Me d.me d.slots x row) ∙ f) fits)
      (λ y ty types found x row r e fit fits f. tested (is_typed (term_type known y types) ty) (is_same x (term_value d.me d.slots row y)) types found row r (sym (pattern_row_at-Equal known y ty types) ∙ e) (sym (match-Equal d.me d.slots x row y) ∙ f) fits)
      tuple_case

-- A pattern with a tag matches only messages with this tag.

text_layer : (p : Pattern-F Pattern) (tag : List ℕ) → text_pattern p ≡ Some tag → p ≡ po.Const (kept.Text tag)
text_layer (po.Const (kept.Text bytes)) tag e = cc
text_layer _ tag e = absurd (cc)

pub text_pattern_is : (p : Pattern) (tag : List ℕ) → text_pattern (out-Pattern p) ≡ Some tag → p ≡ pa.Const (kept.Text tag)
text_pattern_is p tag e = sym (roll-out-Pattern p) ∙ ap roll-Pattern (text_layer (out-Pattern p) tag e) ∙ pa.rolls-Const (kept.Text tag)

tag_layer : (p : Pattern-F Pattern) (tag : List ℕ) → pattern_tag p ≡ Some tag → (q : Pattern) × (qs : List Pattern) × (p ≡ po.Tuple (q ∷ qs)) × (text_pattern (out-Pattern q) ≡ Some tag)
tag_layer (po.Tuple []) tag e = absurd (cc)
tag_layer (po.Tuple (q ∷ qs)) tag e = (q, qs, refl, e)
tag_layer _ tag e = absurd (cc)

-- such a pattern is a tuple whose first part is the text
pub tagged_is : (p : Pattern) (tag : List ℕ) → pattern_tag (out-Pattern p) ≡ Some tag → (qs : List Pattern) × (p ≡ pa.Tuple (pa.Const (kept.Text tag) ∷ qs))
tagged_is p tag e =
    let (q, qs, is, text) = tag_layer (out-Pattern p) tag e in
    let made : p ≡ pa.Tuple (q ∷ qs) = sym (roll-out-Pattern p) ∙ ap roll-Pattern is ∙ pa.rolls-Tuple (q ∷ qs) in
    (qs, made ∙ ap (λ z. pa.Tuple (z ∷ qs)) (text_pattern_is q tag text))

module _ (me : ℕ) (slots : List Val) where
  tag_of_parts : (tag : List ℕ) (qs : List Pattern) (x : Val-F Val) (row r : Row) → match_tuple (map (matched me slots) (pa.Const (kept.Text tag) ∷ qs)) x row ≡ Some r → tag_of x ≡ Some tag
  tag_of_parts tag qs (vo.Tuple []) row r e = absurd (cc)
  tag_of_parts tag qs (vo.Tuple (v ∷ vs)) row r e =
      let (s, there, rest) = then_parts (matched me slots (pa.Const (kept.Text tag)) v row) (match_parts (map (matched me slots) qs) vs) r e in
      let same : v ≡ val.Text tag = same_is v (val.Text tag) (where_parts (is_same v (val.Text tag)) row s (sym (match-Const me slots v row (kept.Text tag)) ∙ there)) in
      ap (λ z. as_tag (out-Val z)) same ∙ ap as_tag (val.outs-Text tag)
  tag_of_parts tag qs (vo.Int z) row r e = absurd (cc)
  tag_of_parts tag qs (vo.Bool z) row r e = absurd (cc)
  tag_of_parts tag qs (vo.Text z) row r e = absurd (cc)
  tag_of_parts tag qs (vo.Proc z) row r e = absurd (cc)
  tag_of_parts tag qs (vo.Set z) row r e = absurd (cc)

  pub tag_matched : (p : Pattern) (tag : List ℕ) (x : Val) (row r : Row) → pattern_tag (out-Pattern p) ≡ Some tag → matched me slots p x row ≡ Some r → tag_of (out-Val x) ≡ Some tag
  tag_matched p tag x row r e f =
      let (qs, is) = tagged_is p tag e in
      tag_of_parts tag qs (out-Val x) row r (sym (match-Tuple me slots x row (pa.Const (kept.Text tag) ∷ qs)) ∙ ap (λ z. matched me slots z x row) (sym is) ∙ f)
