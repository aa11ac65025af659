-- A term, a pattern or a generator that keeps the rules of types names no slot of a set type. Renamed ones name the slots that
-- the written ones name.
use Rattle.std.specs.Prelude.{◌≡◌, ℕ, Bool, true, false, ◌||◌, nat_eq, if◌then◌else◌, List, [], ◌∷◌, map, Option, Some, None, refl}
use Rattle.std.specs.List.{AllByRecursion, list_any}
use Rattle.std.proofs.Common.{ap, sym, ◌∙◌}
use Rattle.std.proofs.lemmas.Bool.{false≢true, or_from, eqb-true}
use Rattle.da_lang.specs.declared.query.Pattern.{Pattern, out-Pattern}
use Rattle.da_lang.specs.declared.query.Pattern.TheVariants as pattern
use Rattle.da_lang.specs.declared.query.RGen.{RGen}
use Rattle.da_lang.specs.declared.query.Source.{Source}
use Rattle.da_lang.specs.declared.query.Source.TheVariants as source
use Rattle.da_lang.specs.declared.query.Term.{Term}
use Rattle.da_lang.specs.declared.query.Term.TheVariants as term
use Rattle.da_lang.specs.declared.ty.Ty.{Ty}
use Rattle.da_lang.specs.declared.ty.Ty.TheVariants as t
use Rattle.da_lang.specs.Naming.{names, pattern_names, gen_names}
use Rattle.da_lang.specs.QueryTypes.{Known, given, flat, all_types, no_set, term_type, each_part, is_typed, pattern_row, matched_row, pattern_tag, message_type, slot_type, is_any, source_row, peer_row, gen_row}
use Rattle.da_lang.specs.Types.{same_type, is_set, parts_of, element_of, is_flat}
use Rattle.da_lang.specs.World.{at_number}
use Rattle.da_lang.proofs.TermInduction.{term_induction, pattern_induction}
use Rattle.da_lang.proofs.typing.QueryTypesAt.{term_type_at-Slot, term_type_at-Tuple, pattern_row_at-Equal, pattern_row_at-Tuple}
use Rattle.query_plan.specs.Plans.{part_of, known as part_for, rename, rename_pattern, rename_gen}
use Rattle.query_plan.proofs.PlansAt.{rename-Const, rename-Me, rename-Slot, rename-Part, rename-Tuple, rename-Foreign, renamed-Any, renamed-Bind, renamed-Const, renamed-Me, renamed-Equal, renamed-Tuple}
use Rattle.query_plan.proofs.PlanTermsAt.{names-Const, names-Me, names-Slot, names-Part, names-Tuple, names-Foreign, pattern_names-Any, pattern_names-Bind, pattern_names-Const, pattern_names-Me, pattern_names-Equal, pattern_names-Tuple}
use Rattle.quant_norm.proofs.VariesLaws.{given_found, held_found, when_found}

-- Renamed.

module _ (vars : List ℕ) (s : ℕ) where
  abbrev named : ℕ → Term
  named = part_for vars

  abbrev Kept : Term → Type 0
  Kept x = names s (rename named x) ≡ names s x

  part_kept : (k : ℕ) → Kept (term.Part k)
  part_kept k = ap (names s) (rename-Part named k) ∙ of_part (at_number vars k) ∙ sym (names-Part s k)
    where
      of_part : (o : Option ℕ) → names s (part_of o) ≡ false
      of_part None = names-Foreign s
      of_part (Some p) = names-Part s p

  parts_kept : (parts : List Term) → AllByRecursion Kept parts → list_any (names s) (map (rename named) parts) ≡ list_any (names s) parts
  parts_kept [] each = refl
  parts_kept (x ∷ xs) each = ap (λ b. b || list_any (names s) (map (rename named) xs)) each.0 ∙ ap (λ b. names s x || b) (parts_kept xs each.1)

  pub term_kept : (x : Term) → Kept x
  term_kept =
      term_induction Kept
      (λ c. ap (names s) (rename-Const named c))
      (ap (names s) (rename-Me named))
      (λ k. ap (names s) (rename-Slot named k))
      part_kept
      (λ parts each. ap (names s) (rename-Tuple named parts) ∙ names-Tuple s (map (rename named) parts) ∙ parts_kept parts each ∙ sym (names-Tuple s parts))
      (ap (names s) (rename-Foreign named))

  abbrev PatternKept : Pattern → Type 0
  PatternKept p = pattern_names s (rename_pattern named p) ≡ pattern_names s p

  patterns_kept : (ps : List Pattern) → AllByRecursion PatternKept ps → list_any (pattern_names s) (map (rename_pattern named) ps) ≡ list_any (pattern_names s) ps
  patterns_kept [] each = refl
  patterns_kept (p ∷ ps) each = ap (λ b. b || list_any (pattern_names s) (map (rename_pattern named) ps)) each.0 ∙ ap (λ b. pattern_names s p || b) (patterns_kept ps each.1)

  pattern_kept : (p : Pattern) → PatternKept p
  pattern_kept =
      pattern_induction PatternKept
      (ap (pattern_names s) (renamed-Any named))
      (ap (pattern_names s) (renamed-Bind named))
      (λ c. ap (pattern_names s) (renamed-Const named c))
      (ap (pattern_names s) (renamed-Me named))
      (λ x. ap (pattern_names s) (renamed-Equal named x) ∙ pattern_names-Equal s (rename named x) ∙ term_kept x ∙ sym (pattern_names-Equal s x))
      (λ ps each. ap (pattern_names s) (renamed-Tuple named ps) ∙ pattern_names-Tuple s (map (rename_pattern named) ps) ∙ patterns_kept ps each ∙ sym (pattern_names-Tuple s ps))

  pub gen_kept : (g : RGen) → gen_names s (rename_gen named g) ≡ gen_names s g
  gen_kept g = ap (λ b. b || pattern_names s (rename_pattern named g.peer)) (pattern_kept g.message) ∙ ap (λ b. pattern_names s g.message || b) (pattern_kept g.peer)

-- Typed.

module _ (rules : Known) (s : ℕ) (held : Ty) (there : slot_type rules s ≡ Some held) (set : is_set held ≡ true) where
  -- a term that has a type
  abbrev Free : Term → Type 0
  Free x = (row : List Ty) (ty : Ty) → term_type rules x row ≡ Some ty → names s x ≡ false

  not_it : (k : ℕ) (own ty : Ty) (b : Bool) → nat_eq k s ≡ b → slot_type rules k ≡ Some own → no_set own ≡ Some ty → b ≡ false
  not_it k own ty false e is kept = refl
  not_it k own ty true e is kept =
      let both : ◌≡◌ {A = Option Ty} (Some own) (Some held) = sym is ∙ ap (slot_type rules) (eqb-true k s e) ∙ there in
      let same : own ≡ held = cc in
      let (denied, self) = when_found (if is_set own then false else true) own ty kept in
      absurd (false≢true (sym (ap (λ b. if b then false else true) (ap is_set same ∙ set)) ∙ denied))

  slot_free : (k : ℕ) → Free (term.Slot k)
  slot_free k row ty e =
      let (middle, first, flat_is) = given_found (given (slot_type rules k) no_set) flat ty (sym (term_type_at-Slot rules k row) ∙ e) in
      let (own, is, kept) = given_found (slot_type rules k) no_set middle first in
      names-Slot s k ∙ not_it k own middle (nat_eq k s) refl is kept

  parts_free : (parts : List Term) → AllByRecursion Free parts → (row types : List Ty) → all_types (map (λ p. p row) (map (term_type rules) parts)) ≡ Some types → list_any (names s) parts ≡ false
  parts_free [] each row types e = refl
  parts_free (x ∷ xs) each row types e =
      let (ty, first, more) = given_found (term_type rules x row) (λ first. given (all_types (map (λ p. p row) (map (term_type rules) xs))) (λ others. Some (first ∷ others))) types e in
      let (others, found, is) = given_found (all_types (map (λ p. p row) (map (term_type rules) xs))) (λ others. Some (ty ∷ others)) types more in
      or_from (names s x) (list_any (names s) xs) (each.0 row ty first) (parts_free xs each.1 row others found)

  tuple_free : (parts : List Term) → AllByRecursion Free parts → Free (term.Tuple parts)
  tuple_free parts each row ty e =
      let (types, found, is) = given_found (all_types (map (λ p. p row) (map (term_type rules) parts))) (λ types. flat (t.Tuple types)) ty (sym (term_type_at-Tuple rules parts row) ∙ e) in
      names-Tuple s parts ∙ parts_free parts each row types found

  pub term_free : (x : Term) → Free x
  term_free = term_induction Free (λ c row ty e. names-Const s c) (λ row ty e. names-Me s) slot_free (λ k row ty e. names-Part s k) tuple_free (λ row ty e. names-Foreign s)

  -- a pattern that adds to a row of types
  abbrev FreePattern : Pattern → Type 0
  FreePattern p = (ty : Ty) (row longer : List Ty) → pattern_row rules p ty row ≡ Some longer → pattern_names s p ≡ false

  equal_free : (x : Term) → FreePattern (pattern.Equal x)
  equal_free x ty row longer e =
      let (typed, same) = when_found (is_typed (term_type rules x row) ty) row longer (sym (pattern_row_at-Equal rules x ty row) ∙ e) in
      let (own, found, fits) = held_found (term_type rules x row) (λ z. same_type z ty) typed in
      pattern_names-Equal s x ∙ term_free x row own found

  patterns_free : (ps : List Pattern) → AllByRecursion FreePattern ps → (types row longer : List Ty) → each_part (map (pattern_row rules) ps) types row ≡ Some longer → list_any (pattern_names s) ps ≡ false
  patterns_free [] each types row longer e = refl
  patterns_free (p ∷ ps) each [] row longer e = absurd (cc)
  patterns_free (p ∷ ps) each (ty ∷ types) row longer e =
      let (middle, first, others) = given_found (pattern_row rules p ty row) (each_part (map (pattern_row rules) ps) types) longer e in
      or_from (pattern_names s p) (list_any (pattern_names s) ps) (each.0 ty row middle first) (patterns_free ps each.1 types middle longer others)

  tuple_pattern_free : (ps : List Pattern) → AllByRecursion FreePattern ps → FreePattern (pattern.Tuple ps)
  tuple_pattern_free ps each ty row longer e =
      let (types, is, found) = given_found (parts_of ty) (λ types. each_part (map (pattern_row rules) ps) types row) longer (sym (pattern_row_at-Tuple rules ps ty row) ∙ e) in
      pattern_names-Tuple s ps ∙ patterns_free ps each types row longer found

  pattern_free : (p : Pattern) → FreePattern p
  pattern_free =
      pattern_induction FreePattern
      (λ ty row longer e. pattern_names-Any s)
      (λ ty row longer e. pattern_names-Bind s)
      (λ c ty row longer e. pattern_names-Const s c)
      (λ ty row longer e. pattern_names-Me s)
      equal_free
      tuple_pattern_free

  -- the peer of a slot
  abbrev FreeAny : Pattern → Type 0
  FreeAny p = is_any (out-Pattern p) ≡ true → pattern_names s p ≡ false

  any_free : (p : Pattern) → FreeAny p
  any_free =
      pattern_induction FreeAny
      (λ e. pattern_names-Any s)
      (λ e. pattern_names-Bind s)
      (λ c e. pattern_names-Const s c)
      (λ e. pattern_names-Me s)
      (λ x e. absurd (false≢true (sym (ap is_any (pattern.outs-Equal x)) ∙ e)))
      (λ ps each e. absurd (false≢true (sym (ap is_any (pattern.outs-Tuple ps)) ∙ e)))

  message_free : (p : Pattern) (row middle : List Ty) → given (given (pattern_tag (out-Pattern p)) (message_type rules)) (λ ty. pattern_row rules p ty row) ≡ Some middle → pattern_names s p ≡ false
  message_free p row middle e =
      let (ty, is, found) = given_found (given (pattern_tag (out-Pattern p)) (message_type rules)) (λ ty. pattern_row rules p ty row) middle e in
      pattern_free p ty row middle found

  element_free : (p : Pattern) (ty : Ty) (row middle : List Ty) (b : Bool) → (if b then pattern_row rules p ty row else None) ≡ Some middle → pattern_names s p ≡ false
  element_free p ty row middle true e = pattern_free p ty row middle e
  element_free p ty row middle false e = absurd (cc)

  source_free : (from : Source) (p : Pattern) (row middle : List Ty) → source_row rules from p row ≡ Some middle → pattern_names s p ≡ false
  source_free source.Received p row middle e = message_free p row middle e
  source_free source.Sent p row middle e = message_free p row middle e
  source_free (source.Slot k) p row middle e =
      let (ty, is, found) = given_found (given (slot_type rules k) element_of) (λ element. matched_row rules p element row) middle e in
      element_free p ty row middle (is_flat ty) found

  peer_free : (from : Source) (p : Pattern) (row longer : List Ty) → peer_row rules from p row ≡ Some longer → pattern_names s p ≡ false
  peer_free source.Received p row longer e = pattern_free p t.Proc row longer e
  peer_free source.Sent p row longer e = pattern_free p t.Proc row longer e
  peer_free (source.Slot k) p row longer e = any_free p (when_found (is_any (out-Pattern p)) row longer e).0

  pub gen_free : (g : RGen) (row longer : List Ty) → gen_row rules g row ≡ Some longer → gen_names s g ≡ false
  gen_free g row longer e =
      let (middle, first, second) = given_found (source_row rules g.source g.message row) (peer_row rules g.source g.peer) longer e in
      or_from (pattern_names s g.message) (pattern_names s g.peer) (source_free g.source g.message row middle first) (peer_free g.source g.peer middle longer second)
