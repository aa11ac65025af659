-- Terms have the types that are found; patterns and generators have a row exactly where what they demand is met.
use Rattle.std.specs.Prelude.{◌≡◌, refl, ℕ, Bool, true, false, if◌then◌else◌, List, [], ◌∷◌, ◌++◌, map, Option, Some, None}
use Rattle.std.specs.List.{AllByRecursion}
use Rattle.std.proofs.Common.{◌∙◌, ap, sym, subst}
use Rattle.da_lang.specs.declared.query.Pattern.{Pattern, out-Pattern}
use Rattle.da_lang.specs.declared.query.RGen.{RGen}
use Rattle.da_lang.specs.declared.query.Source.{Source}
use Rattle.da_lang.specs.declared.query.Source.TheVariants as source
use Rattle.da_lang.specs.declared.query.Term.{Term}
use Rattle.da_lang.specs.declared.ty.Ty.{Ty}
use Rattle.da_lang.specs.declared.ty.Ty.TheVariants as t
use Rattle.da_lang.specs.QueryTypes.{Known, given, when, flat, no_set, literal_type, slot_type, term_type, pattern_row, matched_row, pattern_tag, message_type, message_row, source_row, peer_row, gen_row, gens_row, is_any}
use Rattle.da_lang.specs.Types.{is_flat, element_of}
use Rattle.da_lang.specs.World.{at_number}
use Rattle.da_lang.proofs.TermInduction.{term_induction, pattern_induction}
use Rattle.da_lang.proofs.typing.QueryTypesAt.{term_type_at-Const, term_type_at-Me, term_type_at-Slot, term_type_at-Part, term_type_at-Tuple, term_type_at-Foreign, pattern_row_at-Any, pattern_row_at-Bind, pattern_row_at-Const, pattern_row_at-Me, pattern_row_at-Equal, pattern_row_at-Tuple}
use Rattle.type_table.specs.declared.scheme.Scheme.{Scheme}
use Rattle.type_table.specs.declared.scheme.Scheme.TheVariants as s
use Rattle.type_table.specs.Fits.{Meaning}
use Rattle.type_table.specs.Schemes.{stands}
use Rattle.type_table.proofs.SchemeLaws.{stands_proc}
use Rattle.type_demands.specs.Syms.{Sym, Context, found, plain, plain_or_never, single_sym, literal_sym}
use Rattle.type_demands.specs.Terms.{RowSym, row_sym, no_row, element_sym, term_sym, pattern_sym, tagged_sym, message_sym, source_sym, peer_sym, gen_sym, gens_sym}
use Rattle.type_demands.specs.Meets.{Means, Stand, RowAgrees}
use Rattle.type_demands.proofs.FoundLaws.{flat_found, single_found, element_found, literal_found, AreFound, tuple_found}
use Rattle.type_demands.proofs.QueriesAt.{term-Const, term-Me, term-Slot, term-Part, term-Tuple, term-Foreign, pattern-Any, pattern-Bind, pattern-Const, pattern-Me, pattern-Equal, pattern-Tuple}
use Rattle.type_demands.proofs.RowLaws.{stand_more, part_found, stays, none_there, typed_agrees, then_agrees, over_agrees, tuple_agrees}

module _ (m : Meaning) (headed : ℕ → Bool) (known : Known) (context : Context) (means : Means m headed known context) where
  abbrev Stands : List Scheme → List Ty → Type 0
  Stands row types = Stand m headed row types

  abbrev pub TermAgrees : Term → Type 0
  TermAgrees x = (row : List Scheme) (types : List Ty) → Stands row types → term_type known x types ≡ found m headed (term_sym context x row)

  abbrev found_as : {o : Option Ty} {x y : Sym} → o ≡ found m headed x → y ≡ x → o ≡ found m headed y
  found_as is same = is ∙ ap (found m headed) (sym same)

  terms_found : (xs : List Term) → AllByRecursion TermAgrees xs → (row : List Scheme) (types : List Ty) → Stands row types → AreFound m headed (map (λ (p : List Ty → Option Ty). p types) (map (term_type known) xs)) (map (λ (p : List Scheme → Sym). p row) (map (term_sym context) xs))
  terms_found [] each row types so = tt
  terms_found (x ∷ xs) each row types so = (each.0 row types so, terms_found xs each.1 row types so)

  pub term_agrees : (x : Term) → TermAgrees x
  term_agrees = term_induction TermAgrees
      (λ v row types so. found_as (term_type_at-Const known v types ∙ literal_found m headed v) (term-Const context v row))
      (λ row types so. found_as (term_type_at-Me known types ∙ sym (stands_proc m)) (term-Me context row))
      (λ k row types so. found_as (term_type_at-Slot known k types ∙ ap (λ o. given (given o no_set) flat) (means.slots k) ∙ ap (λ o. given o flat) (single_found m headed (context.slot k)) ∙ flat_found m headed (single_sym (context.slot k))) (term-Slot context k row))
      (λ k row types so. found_as (term_type_at-Part known k types ∙ ap (λ o. given o flat) (part_found m headed row types so k) ∙ flat_found m headed (plain_or_never (at_number row k))) (term-Part context k row))
      (λ xs each row types so. found_as (term_type_at-Tuple known xs types ∙ tuple_found m headed _ _ (terms_found xs each row types so)) (term-Tuple context xs row))
      (λ row types so. found_as (term_type_at-Foreign known types) (term-Foreign context row))

  abbrev pub PatternAgrees : Pattern → Type 0
  PatternAgrees p = (asked : Scheme) (ty : Ty) (row : List Scheme) (types : List Ty) → stands m asked ≡ Some ty → Stands row types → RowAgrees m headed (pattern_row known p ty types) (pattern_sym context p asked row)

  by_forms : {o p : Option (List Ty)} {x y : RowSym} → o ≡ p → x ≡ y → RowAgrees m headed p y → RowAgrees m headed o x
  by_forms {o} {p} {x} {y} of_row of_sym agrees = subst (λ z. RowAgrees m headed z x) (sym of_row) (subst (λ z. RowAgrees m headed p z) (sym of_sym) agrees)

  bound : (asked : Scheme) (ty : Ty) (row : List Scheme) (types : List Ty) → stands m asked ≡ Some ty → Stands row types → RowAgrees m headed (Some (types ++ ty ∷ [])) (row_sym [] (row ++ asked ∷ []))
  bound asked ty row types stand so = stays m headed (row ++ asked ∷ []) (types ++ ty ∷ []) (stand_more m headed row types asked ty so stand)

  pub pattern_agrees : (p : Pattern) → PatternAgrees p
  pattern_agrees = pattern_induction PatternAgrees
      (λ asked ty row types stand so. by_forms (pattern_row_at-Any known ty types) (pattern-Any context asked row) (stays m headed row types so))
      (λ asked ty row types stand so. by_forms (pattern_row_at-Bind known ty types) (pattern-Bind context asked row) (bound asked ty row types stand so))
      (λ v asked ty row types stand so. by_forms (pattern_row_at-Const known v ty types) (pattern-Const context v asked row) (typed_agrees m headed (literal_type v) (literal_sym v) (literal_found m headed v) asked ty row types stand so))
      (λ asked ty row types stand so. by_forms (pattern_row_at-Me known ty types) (pattern-Me context asked row) (typed_agrees m headed (Some t.Proc) (plain s.Proc) (sym (stands_proc m)) asked ty row types stand so))
      (λ x asked ty row types stand so. by_forms (pattern_row_at-Equal known x ty types) (pattern-Equal context x asked row) (typed_agrees m headed (term_type known x types) (term_sym context x row) (term_agrees x row types so) asked ty row types stand so))
      (λ ps each asked ty row types stand so. by_forms (pattern_row_at-Tuple known ps ty types) (pattern-Tuple context ps asked row) (tuple_agrees m headed (pattern_row known) (pattern_sym context) ps each asked ty row types stand so))

  -- rows of generators, one after the other
  abbrev Extends : (List Ty → Option (List Ty)) → (List Scheme → RowSym) → Type 0
  Extends f g = (row : List Scheme) (types : List Ty) → Stands row types → RowAgrees m headed (f types) (g row)

  tagged_agrees : (tag : Option (List ℕ)) (p : Pattern) (row : List Scheme) (types : List Ty) → Stands row types → RowAgrees m headed (given (given tag (message_type known)) (λ ty. pattern_row known p ty types)) (tagged_sym context tag p row)
  tagged_agrees None p row types so = none_there m headed row
  tagged_agrees (Some tag) p row types so =
      let x = context.message tag in
      over_agrees m headed (message_type known tag) x (λ ty. pattern_row known p ty types) (pattern_sym context p x.scheme) row
      (ap (λ o. given o flat) (means.messages tag) ∙ flat_found m headed x) (λ ty stand. pattern_agrees p x.scheme ty row types stand so)

  pub message_agrees : (p : Pattern) → Extends (message_row known p) (message_sym context p)
  message_agrees p row types so = tagged_agrees (pattern_tag (out-Pattern p)) p row types so

  matched_where : (b : Bool) (ty : Ty) (o : Option (List Ty)) (f : Ty → Option (List Ty)) → f ty ≡ o → (if b then o else None) ≡ given (when b ty) f
  matched_where true ty o f is = sym is
  matched_where false ty o f is = refl

  matched_is : (o : Option Ty) (p : Pattern) (types : List Ty) → given o (λ ty. matched_row known p ty types) ≡ given (given o flat) (λ ty. pattern_row known p ty types)
  matched_is None p types = refl
  matched_is (Some ty) p types = matched_where (is_flat ty) ty (pattern_row known p ty types) (λ ty. pattern_row known p ty types) refl

  source_agrees : (source : Source) (p : Pattern) → Extends (source_row known source p) (source_sym context source p)
  source_agrees source.Received p row types so = message_agrees p row types so
  source_agrees source.Sent p row types so = message_agrees p row types so
  source_agrees (source.Slot slot) p row types so =
      let x = element_sym (context.slot slot) in
      let o = given (slot_type known slot) element_of in
      subst (λ z. RowAgrees m headed z (source_sym context (source.Slot slot) p row)) (sym (matched_is o p types))
      (over_agrees m headed (given o flat) x (λ ty. pattern_row known p ty types) (pattern_sym context p x.scheme) row
      (ap (λ z. given (given z element_of) flat) (means.slots slot) ∙ ap (λ z. given z flat) (element_found m headed (context.slot slot)) ∙ flat_found m headed x)
      (λ ty stand. pattern_agrees p x.scheme ty row types stand so))

  any_agrees : (b : Bool) (row : List Scheme) (types : List Ty) → Stands row types → RowAgrees m headed (when b types) (if b then row_sym [] row else no_row row)
  any_agrees true row types so = stays m headed row types so
  any_agrees false row types so = none_there m headed row

  peer_agrees : (source : Source) (p : Pattern) → Extends (peer_row known source p) (peer_sym context source p)
  peer_agrees source.Received p row types so = pattern_agrees p s.Proc t.Proc row types (stands_proc m) so
  peer_agrees source.Sent p row types so = pattern_agrees p s.Proc t.Proc row types (stands_proc m) so
  peer_agrees (source.Slot slot) p row types so = any_agrees (is_any (out-Pattern p)) row types so

  gen_agrees : (g : RGen) → Extends (gen_row known g) (gen_sym context g)
  gen_agrees g row types so =
      let first = source_sym context g.source g.message row in
      then_agrees m headed (source_row known g.source g.message types) (peer_row known g.source g.peer) first (peer_sym context g.source g.peer) (source_agrees g.source g.message row types so)
      (λ later there. peer_agrees g.source g.peer first.row later there)

  pub gens_agree : (gs : List RGen) → Extends (gens_row known gs) (gens_sym context gs)
  gens_agree [] row types so = stays m headed row types so
  gens_agree (g ∷ gs) row types so =
      let first = gen_sym context g row in
      then_agrees m headed (gen_row known g types) (gens_row known gs) first (gens_sym context gs) (gen_agrees g row types so) (λ later there. gens_agree gs first.row later there)
