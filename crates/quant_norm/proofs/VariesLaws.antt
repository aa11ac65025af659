-- A generator that keeps the rules of types has the live pattern of its renamed form: its terms name variables that are
-- there, which become parts of a row, so what varies goes on to vary.
use Rattle.std.specs.Prelude.{◌≡◌, ◌≤◌, ◌+◌, ℕ, zero, suc, Bool, true, false, ◌||◌, if◌then◌else◌, List, [], ◌∷◌, ◌++◌, map, length, sum, get_or, Option, Some, None, refl}
use Rattle.std.specs.List.{AllByRecursion, list_any}
use Rattle.std.proofs.Common.{ap, sym, ◌∙◌, arith, length-append}
use Rattle.std.proofs.lemmas.List.Sums.{sum_by-cons}
use Rattle.std.proofs.lemmas.Option.{slice_get_within, slice_get-get_or}
use Rattle.da_lang.specs.declared.query.LivePattern.{LivePattern}
use Rattle.da_lang.specs.declared.query.Pattern.{Pattern, out-Pattern}
use Rattle.da_lang.specs.declared.query.Pattern.TheVariants as pattern
use Rattle.da_lang.specs.declared.query.RGen.{RGen}
use Rattle.da_lang.specs.declared.query.Source.{Source}
use Rattle.da_lang.specs.declared.query.Source.TheVariants as source
use Rattle.da_lang.specs.declared.query.Term.{Term}
use Rattle.da_lang.specs.declared.query.Term.TheVariants as term
use Rattle.da_lang.specs.declared.ty.Ty.{Ty}
use Rattle.da_lang.specs.declared.ty.Ty.TheVariants as t
use Rattle.da_lang.specs.Live.{is_history, varies, live_pattern, live_gen}
use Rattle.da_lang.specs.QueryTypes.{Known, given, holds_of, when, flat, all_types, term_type, each_part, is_typed, literal_type, pattern_row, matched_row, pattern_tag, message_type, message_row, slot_type, is_any, source_row, peer_row, gen_row}
use Rattle.da_lang.specs.Types.{same_type, parts_of, element_of, is_flat}
use Rattle.da_lang.specs.World.{at_number}
use Rattle.da_lang.proofs.LiveLaws.{varies-Part, varies-Tuple, live-Equal, live-Tuple}
use Rattle.da_lang.proofs.TermInduction.{term_induction, pattern_induction}
use Rattle.da_lang.proofs.typing.QueryTypesAt.{term_type_at-Part, term_type_at-Tuple, pattern_row_at-Any, pattern_row_at-Bind, pattern_row_at-Const, pattern_row_at-Me, pattern_row_at-Equal, pattern_row_at-Tuple}
use Rattle.query_plan.specs.Nodes.{binds, parts_added}
use Rattle.query_plan.specs.Plans.{part_of, known as part_for, rename, rename_pattern, rename_gen}
use Rattle.query_plan.proofs.PlansAt.{rename-Const, rename-Me, rename-Slot, rename-Part, rename-Tuple, rename-Foreign, renamed-Any, renamed-Bind, renamed-Const, renamed-Me, renamed-Equal, renamed-Tuple}
use Rattle.query_plan.proofs.WidthLaws.{binds-Any, binds-Bind, binds-Const, binds-Me, binds-Equal, binds-Tuple}

-- What is known where something is found.

pub given_found : {A B : Type 0} (o : Option A) (go_on : A → Option B) (y : B) → given o go_on ≡ Some y → (x : A) × (o ≡ Some x) × (go_on x ≡ Some y)
given_found None go_on y e = absurd (cc)
given_found (Some x) go_on y e = (x, refl, e)

pub held_found : {A : Type 0} (o : Option A) (test : A → Bool) → holds_of o test ≡ true → (x : A) × (o ≡ Some x) × (test x ≡ true)
held_found None test e = absurd (cc)
held_found (Some x) test e = (x, refl, e)

pub when_found : {A : Type 0} (b : Bool) (x y : A) → when b x ≡ Some y → (b ≡ true) × (x ≡ y)
when_found true x y e = let same : x ≡ y = cc in (refl, same)
when_found false x y e = absurd (cc)

some_one : {A : Type 0} (x y : A) → ◌≡◌ {A = Option A} (Some x) (Some y) → x ≡ y
some_one x y e = cc

-- a member of a list that is no longer than another: there is one of this number there
there_too : {A B : Type 0} (xs : List A) (ys : List B) (k : ℕ) (x : A) (y : B) → at_number xs k ≡ Some x → length xs ≤ length ys → (z : B) × (at_number ys k ≡ Some z)
there_too xs ys zero x y e less = absurd (cc)
there_too xs ys (suc i) x y e less = (get_or ys i y, slice_get-get_or ys i y (omega (arith, less, slice_get_within xs i x e)))

none_or : (b c : Bool) → (b || c) ≡ false → (b ≡ false) × (c ≡ false)
none_or true c e = absurd (cc)
none_or false c e = (refl, e)

-- What does not vary stays as it is.
module _ (f : ℕ → Term) where
  abbrev Stays : Term → Type 0
  Stays x = varies x ≡ false → rename f x ≡ x

  parts_stay : (parts : List Term) → AllByRecursion Stays parts → list_any varies parts ≡ false → map (rename f) parts ≡ parts
  parts_stay [] each none = refl
  parts_stay (x ∷ xs) each none =
      let (first, others) = none_or (varies x) (list_any varies xs) none in
      ap (λ z. z ∷ map (rename f) xs) (each.0 first) ∙ ap (λ zs. x ∷ zs) (parts_stay xs each.1 others)

  pub steady_stays : (x : Term) → Stays x
  steady_stays =
      term_induction Stays
      (λ c none. rename-Const f c)
      (λ none. rename-Me f)
      (λ s none. rename-Slot f s)
      (λ k none. absurd (cc (varies-Part k)))
      (λ parts each none. rename-Tuple f parts ∙ ap term.Tuple (parts_stay parts each (sym (varies-Tuple parts) ∙ none)))
      (λ none. rename-Foreign f)

module _ (rules : Known) (vars : List ℕ) where
  abbrev named : ℕ → Term
  named = part_for vars

  -- Terms.

  abbrev GoesOn : Term → Type 0
  GoesOn x = (row : List Ty) (ty : Ty) → term_type rules x row ≡ Some ty → length row ≤ length vars → varies (rename named x) ≡ varies x

  part_varies : (k p : ℕ) → at_number vars k ≡ Some p → varies (rename named (term.Part k)) ≡ varies (term.Part k)
  part_varies k p e = ap varies (rename-Part named k ∙ ap part_of e) ∙ varies-Part p ∙ sym (varies-Part k)

  part_goes_on : (k : ℕ) → GoesOn (term.Part k)
  part_goes_on k row ty e less =
      let (x, found, is) = given_found (at_number row k) flat ty (sym (term_type_at-Part rules k row) ∙ e) in
      let (p, there) = there_too row vars k x 0 found less in
      part_varies k p there

  parts_go_on : (parts : List Term) → AllByRecursion GoesOn parts → (row : List Ty) (types : List Ty) → all_types (map (λ p. p row) (map (term_type rules) parts)) ≡ Some types → length row ≤ length vars → list_any varies (map (rename named) parts) ≡ list_any varies parts
  parts_go_on [] each row types e less = refl
  parts_go_on (x ∷ xs) each row types e less =
      let (ty, first, more) = given_found (term_type rules x row) (λ first. given (all_types (map (λ p. p row) (map (term_type rules) xs))) (λ others. Some (first ∷ others))) types e in
      let (others, found, is) = given_found (all_types (map (λ p. p row) (map (term_type rules) xs))) (λ others. Some (ty ∷ others)) types more in
      ap (λ b. b || list_any varies (map (rename named) xs)) (each.0 row ty first less) ∙ ap (λ b. varies x || b) (parts_go_on xs each.1 row others found less)

  tuple_goes_on : (parts : List Term) → AllByRecursion GoesOn parts → GoesOn (term.Tuple parts)
  tuple_goes_on parts each row ty e less =
      let (types, found, is) = given_found (all_types (map (λ p. p row) (map (term_type rules) parts))) (λ types. flat (t.Tuple types)) ty (sym (term_type_at-Tuple rules parts row) ∙ e) in
      ap varies (rename-Tuple named parts) ∙ varies-Tuple (map (rename named) parts) ∙ parts_go_on parts each row types found less ∙ sym (varies-Tuple parts)

  term_goes_on : (x : Term) → GoesOn x
  term_goes_on =
      term_induction GoesOn
      (λ c row ty e less. ap varies (rename-Const named c))
      (λ row ty e less. ap varies (rename-Me named))
      (λ s row ty e less. ap varies (rename-Slot named s))
      part_goes_on
      tuple_goes_on
      (λ row ty e less. ap varies (rename-Foreign named))

  -- Patterns: how many variables they add to a row, and their live patterns.

  abbrev SameLive : Pattern → Type 0
  SameLive p = live_pattern (rename_pattern named p) ≡ live_pattern p

  abbrev Lives : Pattern → Type 0
  Lives p = (ty : Ty) (row longer : List Ty) → pattern_row rules p ty row ≡ Some longer → (length longer ≡ length row + binds p) × (length longer ≤ length vars → SameLive p)

  same_long : (row longer : List Ty) (n : ℕ) → row ≡ longer → n ≡ 0 → length longer ≡ length row + n
  same_long row longer n e none = omega (arith, ap length e, none)

  equal_by : (x : Term) (b : Bool) → varies x ≡ b → varies (rename named x) ≡ varies x → (if varies (rename named x) then pattern.Bind else pattern.Equal (rename named x)) ≡ (if varies x then pattern.Bind else pattern.Equal x)
  equal_by x true is same = ap (λ b. if b then pattern.Bind else pattern.Equal (rename named x)) (same ∙ is) ∙ sym (ap (λ b. if b then pattern.Bind else pattern.Equal x) is)
  equal_by x false is same = ap (λ b. if b then pattern.Bind else pattern.Equal (rename named x)) (same ∙ is) ∙ ap pattern.Equal (steady_stays named x is) ∙ sym (ap (λ b. if b then pattern.Bind else pattern.Equal x) is)

  equal_lives : (x : Term) → Lives (pattern.Equal x)
  equal_lives x ty row longer e =
      let (typed, same) = when_found (is_typed (term_type rules x row) ty) row longer (sym (pattern_row_at-Equal rules x ty row) ∙ e) in
      let (own, found, fits) = held_found (term_type rules x row) (λ z. same_type z ty) typed in (
        same_long row longer (binds (pattern.Equal x)) same (binds-Equal x),
        λ less. ap live_pattern (renamed-Equal named x) ∙ live-Equal (rename named x)
            ∙ equal_by x (varies x) refl (term_goes_on x row own found (omega (arith, less, ap length same))) ∙ sym (live-Equal x),
      )

  parts_live : (ps : List Pattern) → AllByRecursion Lives ps → (types row longer : List Ty) → each_part (map (pattern_row rules) ps) types row ≡ Some longer → (length longer ≡ length row + sum (map binds ps)) × (length longer ≤ length vars → map live_pattern (map (rename_pattern named) ps) ≡ map live_pattern ps)
  parts_live [] each [] row longer e = (same_long row longer 0 (some_one row longer e) refl, λ less. refl)
  parts_live [] each (ty ∷ types) row longer e = absurd (cc)
  parts_live (p ∷ ps) each [] row longer e = absurd (cc)
  parts_live (p ∷ ps) each (ty ∷ types) row longer e =
      let (middle, first, others) = given_found (pattern_row rules p ty row) (each_part (map (pattern_row rules) ps) types) longer e in
      let (long, same) = each.0 ty row middle first in
      let (further, alike) = parts_live ps each.1 types middle longer others in
      let count : sum (map binds (p ∷ ps)) ≡ binds p + sum (map binds ps) = sum_by-cons (λ k. k) (binds p) (map binds ps) in (
        omega (arith, long, further, count),
        λ less. ap (λ z. z ∷ map live_pattern (map (rename_pattern named) ps)) (same (omega (arith, less, further))) ∙ ap (λ zs. live_pattern p ∷ zs) (alike less),
      )

  tuple_lives : (ps : List Pattern) → AllByRecursion Lives ps → Lives (pattern.Tuple ps)
  tuple_lives ps each ty row longer e =
      let (types, is, found) = given_found (parts_of ty) (λ types. each_part (map (pattern_row rules) ps) types row) longer (sym (pattern_row_at-Tuple rules ps ty row) ∙ e) in
      let (long, alike) = parts_live ps each types row longer found in (
        long ∙ ap (λ n. length row + n) (sym (binds-Tuple ps)),
        λ less. ap live_pattern (renamed-Tuple named ps) ∙ live-Tuple (map (rename_pattern named) ps) ∙ ap pattern.Tuple (alike less) ∙ sym (live-Tuple ps),
      )

  pattern_lives : (p : Pattern) → Lives p
  pattern_lives =
      pattern_induction Lives
      (λ ty row longer e. (same_long row longer (binds pattern.Any) (some_one row longer (sym (pattern_row_at-Any rules ty row) ∙ e)) binds-Any, λ less. ap live_pattern (renamed-Any named)))
      (λ ty row longer e.
      let same : row ++ ty ∷ [] ≡ longer = some_one (row ++ ty ∷ []) longer (sym (pattern_row_at-Bind rules ty row) ∙ e) in
      (omega (arith, ap length same, length-append row (ty ∷ []), binds-Bind), λ less. ap live_pattern (renamed-Bind named)))
      (λ c ty row longer e.
      let (typed, same) = when_found (is_typed (literal_type c) ty) row longer (sym (pattern_row_at-Const rules c ty row) ∙ e) in
      (same_long row longer (binds (pattern.Const c)) same (binds-Const c), λ less. ap live_pattern (renamed-Const named c)))
      (λ ty row longer e.
      let (typed, same) = when_found (same_type t.Proc ty) row longer (sym (pattern_row_at-Me rules ty row) ∙ e) in
      (same_long row longer (binds pattern.Me) same binds-Me, λ less. ap live_pattern (renamed-Me named)))
      equal_lives
      tuple_lives

  -- Generators.

  both_same : (s : Source) (a b c e : Pattern) → a ≡ b → c ≡ e → ◌≡◌ {A = LivePattern} (record { source = s; message = a; peer = c }) (record { source = s; message = b; peer = e })
  both_same s a b c e one two = cc

  abbrev SameGen : RGen → Type 0
  SameGen g = live_gen (rename_gen named g) ≡ live_gen g

  -- how many variables it adds, and that its live pattern is that of the renamed one
  abbrev pub GenLives : RGen → List Ty → List Ty → Type 0
  GenLives g row longer = (length longer ≡ length row + parts_added g) × (length longer ≤ length vars → is_history g.source ≡ true → SameGen g)

  message_lives : (s : Source) (message peer : Pattern) (row middle longer : List Ty) → message_row rules message row ≡ Some middle → pattern_row rules peer t.Proc middle ≡ Some longer
      → (length longer ≡ length row + (binds message + binds peer)) × (length longer ≤ length vars → SameGen (record { source = s; message = message; peer = peer }))
  message_lives s message peer row middle longer e f =
      let (ty, is, found) = given_found (given (pattern_tag (out-Pattern message)) (message_type rules)) (λ ty. pattern_row rules message ty row) middle e in
      let (long, same) = pattern_lives message ty row middle found in
      let (further, alike) = pattern_lives peer t.Proc middle longer f in (
        omega (arith, long, further),
        λ less. both_same s (live_pattern (rename_pattern named message)) (live_pattern message) (live_pattern (rename_pattern named peer)) (live_pattern peer)
            (same (omega (arith, less, further))) (alike less),
      )

  element_long : (slot : ℕ) (message peer : Pattern) (row middle longer : List Ty) → source_row rules (source.Slot slot) message row ≡ Some middle → peer_row rules (source.Slot slot) peer middle ≡ Some longer → length longer ≡ length row + (binds message + 0)
  element_long slot message peer row middle longer e f =
      let (element, is, found) = given_found (given (slot_type rules slot) element_of) (λ element. matched_row rules message element row) middle e in
      let (typed, row_is) = flat_row element (is_flat element) found in
      let (any, same) = when_found (is_any (out-Pattern peer)) middle longer f in
      omega (arith, (pattern_lives message element row middle row_is).0, ap length same)
    where
      flat_row : (element : Ty) (b : Bool) → (if b then pattern_row rules message element row else None) ≡ Some middle → (b ≡ true) × (pattern_row rules message element row ≡ Some middle)
      flat_row element true found = (refl, found)
      flat_row element false found = absurd (cc)

  lives_by : (s : Source) (message peer : Pattern) (row middle longer : List Ty) → source_row rules s message row ≡ Some middle → peer_row rules s peer middle ≡ Some longer → GenLives (record { source = s; message = message; peer = peer }) row longer
  lives_by source.Received message peer row middle longer e f =
      let (long, same) = message_lives source.Received message peer row middle longer e f in (long, λ less over. same less)
  lives_by source.Sent message peer row middle longer e f =
      let (long, same) = message_lives source.Sent message peer row middle longer e f in (long, λ less over. same less)
  lives_by (source.Slot slot) message peer row middle longer e f = (element_long slot message peer row middle longer e f, λ less wrong. absurd (cc))

  pub gen_lives : (g : RGen) (row longer : List Ty) → gen_row rules g row ≡ Some longer → GenLives g row longer
  gen_lives g row longer e =
      let (middle, first, second) = given_found (source_row rules g.source g.message row) (peer_row rules g.source g.peer) longer e in
      lives_by g.source g.message g.peer row middle longer first second
