-- A typed term, pattern or generator has a value wherever a strict reading looks for one, and it is the value that it has
-- anyhow.
use Rattle.std.specs.Prelude.{◌≡◌, refl, ℕ, Bool, true, false, List, [], ◌∷◌, ◌++◌, map, Option, Some, None}
use Rattle.std.specs.List.{AllByRecursion, filter_map, flat_map, cons_option}
use Rattle.std.proofs.Common.{◌∙◌, ap, sym, subst, inl, inr}
use Rattle.da_values.specs.declared.val.Val.{Val, out-Val}
use Rattle.da_values.specs.declared.val.Val.TheVariants as val
use Rattle.da_values.specs.declared.val.Val.TheOpen as vo
use Rattle.da_values.specs.declared.val.Val.TheOpen.{Val-F}
use Rattle.da_values.specs.declared.value.Value.TheVariants as kept
use Rattle.da_values.specs.Sets.{Has}
use Rattle.da_lang.specs.declared.query.Pattern.{Pattern, out-Pattern}
use Rattle.da_lang.specs.declared.query.Pattern.TheVariants as pa
use Rattle.da_lang.specs.declared.query.Term.{Term}
use Rattle.da_lang.specs.declared.query.Term.TheVariants as te
use Rattle.da_lang.specs.declared.ty.Ty.{Ty}
use Rattle.da_lang.specs.Matching.{Row, is_same, and_then, where_true, match_parts, match_tuple, matched}
use Rattle.da_lang.specs.Queries.{value_at}
use Rattle.da_lang.specs.QueryTypes.{Known, given, is_typed, each_part, all_types, term_type, pattern_row, pattern_tag, message_row, message_type, slot_type, no_set}
use Rattle.da_lang.specs.Shaped.{tag_of, as_tag}
use Rattle.da_lang.specs.Types.{is_of, parts_of}
use Rattle.da_lang.specs.World.{Entry, Data, or_nothing, at_number}
use Rattle.da_lang.proofs.MatchingLaws.{term-Const, term-Me, term-Slot, term-Part, term-Tuple, match-Any, match-Bind, match-Const, match-Me, match-Equal, match-Tuple, match-tuples}
use Rattle.da_lang.proofs.TermInduction.{term_induction, pattern_induction}
use Rattle.da_lang.proofs.typing.QueryTypesAt.{term_type_at-Slot, term_type_at-Part, term_type_at-Tuple, term_type_at-Foreign, pattern_row_at-Equal, pattern_row_at-Tuple}
use Rattle.da_types.specs.Totality.{all_there, strict_term, and_strictly, strict_parts, strict_tuple, strict_match}
use Rattle.da_types.proofs.totality.FoundAt.{strict_term-Const, strict_term-Me, strict_term-Slot, strict_term-Part, strict_term-Tuple, strict_match-Any, strict_match-Bind, strict_match-Const, strict_match-Me, strict_match-Equal, strict_match-Tuple}
use Rattle.da_types.proofs.totality.KindLaws.{given_parts, when_parts, is_typed_parts, tuple_type, tuple_of_type}
use Rattle.da_types.proofs.totality.Keeping.{Keeping, Fits, RowFits, EntryFits, Knows, row_fits, part_fits}
use Rattle.da_types.proofs.totality.TermLaws.{flat_is, no_set_is}
use Rattle.da_types.proofs.totality.MatchesFit.{match_fits, same_is, tagged_is}
use Rattle.da_types.proofs.totality.RowsFit.{message_is}

-- where each is there, all are
pub all_are : {A B C : Type 0} (f : A → Option B) (h : C → A) (g : C → B) (xs : List C) → ((x : C) → Has xs x → f (h x) ≡ Some (g x)) → all_there (map f (map h xs)) ≡ Some (map g xs)
all_are f h g [] each = refl
all_are f h g (x ∷ xs) each = rw (each x (inl refl), all_are f h g xs (λ z there. each z (inr there))) refl

pub all_there_are : {A B : Type 0} (f : A → Option B) (g : A → B) (xs : List A) → ((x : A) → Has xs x → f x ≡ Some (g x)) → all_there (map f xs) ≡ Some (map g xs)
all_there_are f g [] each = refl
all_there_are f g (x ∷ xs) each = rw (each x (inl refl), all_there_are f g xs (λ z there. each z (inr there))) refl

pub filtered : {A B C : Type 0} (f : A → Option B) (h : C → A) (xs : List C) → filter_map (λ r. r) (map (λ x. f (h x)) xs) ≡ filter_map f (map h xs)
filtered f h [] = refl
filtered f h (x ∷ xs) = ap (cons_option (f (h x))) (filtered f h xs)

pub flattened : {A B : Type 0} (f : A → List B) (xs : List A) → flat_map (λ r. r) (map f xs) ≡ flat_map f xs
flattened f [] = refl
flattened f (x ∷ xs) = ap (λ z. f x ++ z) (flattened f xs)

module _ (k : Keeping) (known : Known) (d : Data) (w : Knows k known d) where
  abbrev TermFound : Term → Type 0
  TermFound x = (ty : Ty) (types : List Ty) (row : Row) → term_type known x types ≡ Some ty → RowFits k types row → strict_term d row x ≡ Some (value_at d row x)

  slot_case : (slot : ℕ) → TermFound (te.Slot slot)
  slot_case slot ty types row e fits =
      let is = no_set_is (slot_type known slot) ty (flat_is (given (slot_type known slot) no_set) ty (sym (term_type_at-Slot known slot types) ∙ e)) in
      strict_term-Slot d row slot ∙ w.there slot ty is ∙ ap Some (sym (term-Slot d.me d.slots row slot))

  part_case : (part : ℕ) → TermFound (te.Part part)
  part_case part ty types row e fits =
      let (v, there, one) = part_fits k types row part ty fits (flat_is (at_number types part) ty (sym (term_type_at-Part known part types) ∙ e)) in
      strict_term-Part d row part ∙ there ∙ ap Some (sym (term-Part d.me d.slots row part ∙ ap or_nothing there))

  parts_there : (xs : List Term) → AllByRecursion TermFound xs → (found types : List Ty) (row : Row) → all_types (map (λ (p : List Ty → Option Ty). p types) (map (term_type known) xs)) ≡ Some found → RowFits k types row → all_there (map (strict_term d row) xs) ≡ Some (map (value_at d row) xs)
  parts_there [] each found types row e fits = refl
  parts_there (x ∷ xs) each found types row e fits =
      let (ty, is, more) = given_parts (term_type known x types) _ found e in
      let (others, are, e) = given_parts (all_types (map (λ (p : List Ty → Option Ty). p types) (map (term_type known) xs))) _ found more in
      rw (each.0 ty types row is fits, parts_there xs each.1 others types row are fits) refl

  tuple_case : (xs : List Term) → AllByRecursion TermFound xs → TermFound (te.Tuple xs)
  tuple_case xs each ty types row e fits =
      let (found, are, more) = given_parts (all_types (map (λ (p : List Ty → Option Ty). p types) (map (term_type known) xs))) _ ty (sym (term_type_at-Tuple known xs types) ∙ e) in
      strict_term-Tuple d row xs ∙ ap (λ z. given z (λ vs. Some (val.Tuple vs))) (parts_there xs each found types row are fits) ∙ ap Some (sym (term-Tuple d.me d.slots row xs))

  foreign_case : TermFound te.Foreign
  foreign_case ty types row e fits = let none : ◌≡◌ {A = Option Ty} None (Some ty) = sym (term_type_at-Foreign known types) ∙ e in absurd (cc)

  pub term_there : (x : Term) → TermFound x
  term_there =
      term_induction TermFound
      (λ c ty types row e fits. strict_term-Const d row c ∙ ap Some (sym (term-Const d.me d.slots row c)))
      (λ ty types row e fits. strict_term-Me d row ∙ ap Some (sym (term-Me d.me d.slots row)))
      slot_case part_case tuple_case foreign_case

  abbrev MatchFound : Pattern → Type 0
  MatchFound p = (ty : Ty) (types found : List Ty) (x : Val) (row : Row) → pattern_row known p ty types ≡ Some found → Fits k ty x → RowFits k types row → strict_match d p x row ≡ Some (matched d.me d.slots p x row)

  -- one match goes on with another in the row that it gives, if there is one
  pub goes_on : (m : Option Row) (strict : Row → Option (Option Row)) (go : Row → Option Row) → ((s : Row) → m ≡ Some s → strict s ≡ Some (go s)) → and_strictly m strict ≡ Some (and_then m go)
  goes_on None strict go each = refl
  goes_on (Some s) strict go each = each s refl

  match_parts_there : (ps : List Pattern) → AllByRecursion MatchFound ps → (tys types found : List Ty) (xs : List Val) (row : Row) → each_part (map (pattern_row known) ps) tys types ≡ Some found → RowFits k tys xs → RowFits k types row → strict_parts (map (strict_match d) ps) xs row ≡ Some (match_parts (map (matched d.me d.slots) ps) xs row)
  match_parts_there [] each [] types found [] row e fit fits = refl
  match_parts_there [] each [] types found (x ∷ xs) row e fit fits = absurd fit
  match_parts_there [] each (ty ∷ tys) types found xs row e fit fits = absurd (cc)
  match_parts_there (p ∷ ps) each [] types found xs row e fit fits = absurd (cc)
  match_parts_there (p ∷ ps) each (ty ∷ tys) types found [] row e fit fits = absurd fit
  match_parts_there (p ∷ ps) each (ty ∷ tys) types found (x ∷ xs) row e fit fits =
      let (mid, is, more) = given_parts (pattern_row known p ty types) (each_part (map (pattern_row known) ps) tys) found e in
      ap (λ z. given z (λ m. and_strictly m (strict_parts (map (strict_match d) ps) xs))) (each.0 ty types mid x row is fit.0 fits)
      ∙ goes_on (matched d.me d.slots p x row) (strict_parts (map (strict_match d) ps) xs) (match_parts (map (matched d.me d.slots) ps) xs)
      (λ s there. match_parts_there ps each.1 tys mid found xs s more fit.1 (match_fits k known d p ty types mid x row s is fit.0 fits there))

  match_tuple_case : (ps : List Pattern) → AllByRecursion MatchFound ps → MatchFound (pa.Tuple ps)
  match_tuple_case ps each ty types found x row e fit fits =
      let (tys, are, more) = given_parts (parts_of ty) (λ tys. each_part (map (pattern_row known) ps) tys types) found (sym (pattern_row_at-Tuple known ps ty types) ∙ e) in
      let (xs, is, each_of) = tuple_of_type tys x (subst (λ z. is_of z x ≡ true) (tuple_type ty tys are) fit.0) in
      let by_parts = match_parts_there ps each tys types found xs row more (row_fits k tys xs each_of (k.parts xs (subst k.Kept is fit.1))) fits in
      let strict : strict_match d (pa.Tuple ps) (val.Tuple xs) row ≡ strict_parts (map (strict_match d) ps) xs row = strict_match-Tuple d (val.Tuple xs) row ps ∙ ap (λ z. strict_tuple (map (strict_match d) ps) z row) (val.outs-Tuple xs) in
      ap (λ z. strict_match d (pa.Tuple ps) z row) is ∙ strict ∙ by_parts ∙ ap Some (sym (match-tuples d.me d.slots xs row ps) ∙ ap (λ z. matched d.me d.slots (pa.Tuple ps) z row) (sym is))

  match_equal_case : (y : Term) → MatchFound (pa.Equal y)
  match_equal_case y ty types found x row e fit fits =
      let (typed, same) = when_parts (is_typed (term_type known y types) ty) types found (sym (pattern_row_at-Equal known y ty types) ∙ e) in
      strict_match-Equal d x row y
      ∙ ap (λ z. given z (λ v. Some (where_true (is_same x v) row))) (term_there y ty types row (is_typed_parts (term_type known y types) ty typed) fits)
      ∙ ap Some (sym (match-Equal d.me d.slots x row y))

  pub match_there : (p : Pattern) → MatchFound p
  match_there =
      pattern_induction MatchFound
      (λ ty types found x row e fit fits. strict_match-Any d x row ∙ ap Some (sym (match-Any d.me d.slots x row)))
      (λ ty types found x row e fit fits. strict_match-Bind d x row ∙ ap Some (sym (match-Bind d.me d.slots x row)))
      (λ c ty types found x row e fit fits. strict_match-Const d x row c ∙ ap Some (sym (match-Const d.me d.slots x row c)))
      (λ ty types found x row e fit fits. strict_match-Me d x row ∙ ap Some (sym (match-Me d.me d.slots x row)))
      match_equal_case match_tuple_case

  -- a message: one with another tag does not match at its first part, and one with this tag is of its type
  abbrev tagged : List ℕ → List Pattern → Pattern
  tagged tag qs = pa.Tuple (pa.Const (kept.Text tag) ∷ qs)

  tagged_parts : (tag : List ℕ) (qs : List Pattern) (v : Val) (vs : List Val) (row : Row) (b : Bool) → is_same v (val.Text tag) ≡ b
      → (b ≡ true → strict_parts (map (strict_match d) (pa.Const (kept.Text tag) ∷ qs)) (v ∷ vs) row ≡ Some (match_parts (map (matched d.me d.slots) (pa.Const (kept.Text tag) ∷ qs)) (v ∷ vs) row))
      → strict_parts (map (strict_match d) (pa.Const (kept.Text tag) ∷ qs)) (v ∷ vs) row ≡ Some (match_parts (map (matched d.me d.slots) (pa.Const (kept.Text tag) ∷ qs)) (v ∷ vs) row)
  tagged_parts tag qs v vs row true is if_same = if_same refl
  tagged_parts tag qs v vs row false is if_same = rw (strict_match-Const d v row (kept.Text tag), match-Const d.me d.slots v row (kept.Text tag), is) refl

  tagged_layer : (tag : List ℕ) (qs : List Pattern) (x : Val-F Val) (row : Row)
      → (tag_of x ≡ Some tag → strict_tuple (map (strict_match d) (pa.Const (kept.Text tag) ∷ qs)) x row ≡ Some (match_tuple (map (matched d.me d.slots) (pa.Const (kept.Text tag) ∷ qs)) x row))
      → strict_tuple (map (strict_match d) (pa.Const (kept.Text tag) ∷ qs)) x row ≡ Some (match_tuple (map (matched d.me d.slots) (pa.Const (kept.Text tag) ∷ qs)) x row)
  tagged_layer tag qs (vo.Tuple []) row if_tagged = refl
  tagged_layer tag qs (vo.Tuple (v ∷ vs)) row if_tagged =
      tagged_parts tag qs v vs row (is_same v (val.Text tag)) refl
      (λ same. if_tagged (ap (λ z. as_tag (out-Val z)) (same_is v (val.Text tag) same) ∙ ap as_tag (val.outs-Text tag)))
  tagged_layer tag qs (vo.Int z) row if_tagged = refl
  tagged_layer tag qs (vo.Bool z) row if_tagged = refl
  tagged_layer tag qs (vo.Text z) row if_tagged = refl
  tagged_layer tag qs (vo.Proc z) row if_tagged = refl
  tagged_layer tag qs (vo.Set z) row if_tagged = refl

  tagged_there : (tag : List ℕ) (qs : List Pattern) (x : Val) (row : Row) → (tag_of (out-Val x) ≡ Some tag → strict_match d (tagged tag qs) x row ≡ Some (matched d.me d.slots (tagged tag qs) x row)) → strict_match d (tagged tag qs) x row ≡ Some (matched d.me d.slots (tagged tag qs) x row)
  tagged_there tag qs x row if_tagged =
      let ps : List Pattern = pa.Const (kept.Text tag) ∷ qs in
      let strict = strict_match-Tuple d x row ps in
      let lenient = match-Tuple d.me d.slots x row ps in
      strict ∙ tagged_layer tag qs (out-Val x) row (λ e. sym strict ∙ if_tagged e ∙ ap Some lenient) ∙ ap Some (sym lenient)

  pub message_there : (e : Entry) → EntryFits k known e → (message : Pattern) (types mid : List Ty) (row : Row) → message_row known message types ≡ Some mid → RowFits k types row → strict_match d message e.message row ≡ Some (matched d.me d.slots message e.message row)
  message_there e entry message types mid row typed fits =
      let (ty, known_type, over) = given_parts (given (pattern_tag (out-Pattern message)) (message_type known)) (λ ty. pattern_row known message ty types) mid typed in
      let (tag, by_tag, of_tag) = given_parts (pattern_tag (out-Pattern message)) (message_type known) ty known_type in
      let (qs, is) = tagged_is message tag by_tag in
      subst (λ p. strict_match d p e.message row ≡ Some (matched d.me d.slots p e.message row)) (sym is)
      (tagged_there tag qs e.message row (λ same. match_there (tagged tag qs) ty types mid e.message row (ap (λ p. pattern_row known p ty types) (sym is) ∙ over) (message_is known tag ty e.message entry.0 same of_tag, entry.1) fits))
