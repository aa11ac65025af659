-- What is found for the demands of a program is so of the program with types.
use Rattle.std.specs.Prelude.{◌≡◌, ◌≢◌, refl, ℕ, zero, suc, ◌-◌, ◌<◌, ◌≤◌, nat_le, Bool, true, false, not, ◌&&◌, List, [], ◌∷◌, ◌++◌, length, map, take, Option, Some, None, unwrap_or, slice_get, Result, Ok, Err, IfOk, IfErr, MatchResult}
use Rattle.std.specs.List.{All}
use Rattle.std.proofs.Common.{◌∙◌, ap, ap₂, sym, subst, arith, inl, inr}
use Rattle.std.proofs.lemmas.Bool.{cases_order}
use Rattle.std.proofs.lemmas.Bool.Decides.{nat_tests}
use Rattle.std.proofs.lemmas.List.{length-append, length-map, length-take-le}
use Rattle.std.proofs.lemmas.List.Elements.{All-append, All-cons, All-nil, All-take}
use Rattle.std.proofs.Math.Seq.{take-append_seam}
use Rattle.da_lang.specs.declared.program.Program.{Program}
use Rattle.da_lang.specs.declared.refusal.LimitKind.{LimitKind}
use Rattle.da_lang.specs.declared.refusal.ScopeKind.{ScopeKind}
use Rattle.da_lang.specs.declared.tree.Tree.{Tree}
use Rattle.da_lang.specs.declared.ty.Ty.{Ty}
use Rattle.da_lang.specs.declared.ty.Ty.TheVariants as ty
use Rattle.da_lang.specs.Accepted.{IsWritten}
use Rattle.da_lang.specs.Limits as limits
use Rattle.da_lang.specs.Limits.{Resolves, limit_fault, limit_refusals}
use Rattle.da_lang.specs.NameRules as names
use Rattle.da_lang.specs.NameRules.{name_fault, name_refusals}
use Rattle.da_lang.specs.Resolution.{resolved}
use Rattle.da_lang.specs.Scopes.{Refused, told}
use Rattle.da_lang.specs.Typing as typing
use Rattle.da_lang.specs.Typing.{Typed, type_breaks}
use Rattle.da_parse.specs.declared.loose.LooseTree.{LooseTree}
use Rattle.da_scope.specs.declared.top.ScopeFault.{ScopeFault}
use Rattle.da_scope.specs.declared.top.ScopeFault.TheVariants as scope
use Rattle.da_scope.specs.Resolving as resolving
use Rattle.da_unparse.proofs.PrintLaws.{spells_again}
use Rattle.type_table.specs.Draws.{numbers_from}
use Rattle.type_table.specs.Fits.{Meaning}
use Rattle.type_choice.specs.Lean.{AreLean}
use Rattle.type_demands.specs.Demands.{all_met}
use Rattle.type_fitting.specs.Declarable.{IsDeclarable}
use Rattle.type_fitting.specs.Fit.{meaning_of, Fits}
use Rattle.added_names.specs.declared.added.OpenPlace.{OpenPlace}
use Rattle.added_names.specs.Filled.{filled, type_count}
use Rattle.class_demands.specs.Prefix.{none_upto, always, demands_upto}
use Rattle.class_demands.specs.declared.demands.ProgramDemands.{ProgramDemands}
use Rattle.class_demands.specs.Programs.{program_demands}
use Rattle.class_demands.specs.Unknowns.{unknown_in}
use Rattle.da_infer.specs.declared.top.InferFault.{InferFault}
use Rattle.da_infer.specs.declared.top.InferFault.TheVariants as fault
use Rattle.da_infer.specs.Answers.{Upto, HasTypes, IsMisnamed, IsTooLarge, HasNoTypes, IsRefusedAs, IsInferred}
use Rattle.da_infer.specs.Fills.{IsLoose, Fills, place_of, open_in, count_in}
use Rattle.da_infer.specs.Laws.{FillsAreWritten, Alike, FillsAgree, types_by, FillsAreDemanded}
use Rattle.da_infer.specs.Marked.{IsMarked}
use Rattle.da_infer.specs.Search.{FitsLast, FitsUpto, IsClash}
use Rattle.da_infer.specs.Unknowns.{AreUnknowns}
use Rattle.da_infer.proofs.UnknownTypes.{int_declarable}

-- ---- the meaning of a list of types

shifted : (g : ℕ → Ty) (first count : ℕ) → map g (numbers_from (suc first) count) ≡ map (λ k. g (suc k)) (numbers_from first count)
shifted g first zero = refl
shifted g first (suc count) = ap (λ z. g (suc first) ∷ z) (shifted g (suc first) count)

by_meaning : (count : ℕ) (types : List Ty) → count ≤ length types → map (meaning_of types) (numbers_from 0 count) ≡ take count types
by_meaning zero types le = refl
by_meaning (suc count) [] le = absurd (omega (arith, le))
by_meaning (suc count) (x ∷ types) le = ap (λ z. x ∷ z) (shifted (meaning_of (x ∷ types)) 0 count ∙ by_meaning count types (omega (arith, le)))

-- `int` so many times
int_list : ℕ → List Ty
int_list zero = []
int_list (suc count) = ty.Int ∷ int_list count

int_list_size : (count : ℕ) → length (int_list count) ≡ count
unfolding int_list
int_list_size zero = refl
int_list_size (suc count) = ap suc (int_list_size count)

int_list_may : (count : ℕ) → All IsDeclarable (int_list count)
unfolding int_list
int_list_may zero = All-nil IsDeclarable
int_list_may (suc count) = All-cons IsDeclarable ty.Int (int_list count) int_declarable (int_list_may count)

padded_first : (count more : ℕ) (types : List Ty) → length types ≡ count → take count (types ++ int_list more) ≡ types
padded_first count more types size = ap (λ n. take n (types ++ int_list more)) (sym size) ∙ take-append_seam types (int_list more)

-- the first types of lists that are lean, one beside the other
lean_first : (n : ℕ) (xs ys : List Ty) → AreLean xs ys → AreLean (take n xs) (take n ys)
lean_first zero xs ys are = AreLean.none
lean_first (suc n) xs ys AreLean.none = AreLean.none
lean_first (suc n) xs ys (AreLean.more x y rest others first each) = AreLean.more x y (take n rest) (take n others) first (lean_first n rest others each)

-- no line up to whichever one
none_at : (x : ℕ) (xs : List ℕ) → none_upto x (x ∷ xs) ≡ true → ⊥
none_at x xs e = let here : nat_le x x ≡ true = grind (arith, nat_tests) in let no : (not (nat_le x x) && none_upto x xs) ≡ false = ap (λ b. not b && none_upto x xs) here in cc

no_lines : (xs : List ℕ) → ((n : ℕ) → none_upto n xs ≡ true) → xs ≡ []
no_lines [] none = refl
no_lines (x ∷ xs) none = absurd (none_at x xs (none x))

-- ---- what is found

module _ (l : LooseTree) (is : IsLoose l) (demanded : FillsAreDemanded) (p : Program) (marked : IsMarked l p) (known : ℕ) (more : count_in l ≤ known) where
  -- with the first of these types the program breaks no rule up to a line exactly where they meet what is demanded up to it
  broken_by : (types : List Ty) → length types ≡ known → (n : ℕ) → none_upto n (type_breaks (resolved (filled (open_in l) (take (count_in l) types)))) ≡ all_met (meaning_of types) always (demands_upto n (program_demands p))
  broken_by types size n =
      ap (λ z. none_upto n (type_breaks (resolved (filled (open_in l) z)))) (sym (by_meaning (count_in l) types (omega (arith, size, more))))
      ∙ demanded l is marked.unknowns marked.numbers (meaning_of types) n
      ∙ ap (λ q. all_met (meaning_of types) always (demands_upto n (program_demands q))) (sym marked.resolves.becomes)

  first_fills : (n : ℕ) (types : List Ty) → FitsUpto known (program_demands p) n types → Fills l (take (count_in l) types) (filled (open_in l) (take (count_in l) types))
  first_fills n types fits = record {
    size = length-take-le (count_in l) types (omega (arith, fits.size, more));
    each = All-take IsDeclarable (count_in l) types fits.each;
    is = refl;
  }

  has_types : (n : ℕ) (types : List Ty) → FitsUpto known (program_demands p) n types → HasTypes l n
  has_types n types fits = record {
    types = take (count_in l) types;
    tree = filled (open_in l) (take (count_in l) types);
    fills = first_fills n types fits;
    keeps = broken_by types fits.size n ∙ fits.met;
  }

  -- types that keep the rules, and `int` for what nothing is declared of
  padded_fits : (n : ℕ) (h : HasTypes l n) → FitsUpto known (program_demands p) n (h.types ++ int_list (known - count_in l))
  padded_fits n h =
      let rest = int_list (known - count_in l) in
      let size : length (h.types ++ rest) ≡ known = omega (arith, length-append h.types rest, h.fills.size, int_list_size (known - count_in l), more) in
      record {
        size = size;
        each = All-append IsDeclarable h.types rest h.fills.each (int_list_may (known - count_in l));
        met = sym (broken_by (h.types ++ rest) size n)
            ∙ ap (λ z. none_upto n (type_breaks (resolved (filled (open_in l) z)))) (padded_first (count_in l) (known - count_in l) h.types h.fills.size)
            ∙ ap (λ t. none_upto n (type_breaks (resolved t))) (sym h.fills.is)
            ∙ h.keeps;
      }

  fits_types : (n : ℕ) → HasTypes l n → (types : List Ty) × FitsUpto known (program_demands p) n types
  fits_types n h = (h.types ++ int_list (known - count_in l), padded_fits n h)

  -- the first of these types are lean beside any others that keep the rules
  lean_types : (types : List Ty) → FitsLast known (program_demands p) types → (others : List Ty) (u : Tree) → Fills l others u → type_breaks (resolved u) ≡ [] → AreLean (take (count_in l) types) others
  lean_types types best others u fills keeps =
      subst (AreLean (take (count_in l) types)) (padded_first (count_in l) (known - count_in l) others fills.size)
      (lean_first (count_in l) types (others ++ int_list (known - count_in l))
      (best.lean (others ++ int_list (known - count_in l)) (λ n. padded_fits n (record { types = others; tree = u; fills = fills; keeps = ap (none_upto n) keeps }))))

  pub clashes : (line : ℕ) → IsClash known (program_demands p) line → HasNoTypes l line
  clashes line clash = record {
    types = marked.unknowns;
    tree = filled (open_in l) marked.unknowns;
    fills = marked.fills;
    named = marked.resolves.named;
    within = marked.resolves.within;
    none = λ h. let found = fits_types line h in clash.none found.0 found.1;
    before = λ n less. let found = clash.before n less in has_types n found.0 found.1;
  }

  pub inferred : FillsAgree → FillsAreWritten → (types : List Ty) (t : Tree) → FitsLast known (program_demands p) types → t ≡ filled (open_in l) (take (count_in l) types) → IsInferred l t
  inferred agree written types t best same =
      let fits = best.fits in
      let first = take (count_in l) types in
      let given = first_fills 0 types (fits 0) in
      let fills : Fills l first t = record { size = given.size; each = given.each; is = same } in
      let alike = agree l is first marked.unknowns t (filled (open_in l) marked.unknowns) fills marked.fills in
      let spelled = written l is first t fills in
      record {
        types = first;
        fills = fills;
        program = resolved t;
        resolves = record { named = alike.names ∙ marked.resolves.named; within = alike.limits ∙ marked.resolves.within; becomes = refl };
        whole = typing.filled (resolved t);
        typed = record {
          keeps = no_lines (type_breaks (resolved t)) (λ n. ap (λ u. none_upto n (type_breaks (resolved u))) same ∙ broken_by types (fits 0).size n ∙ (fits n).met);
          becomes = refl;
        };
        lean = lean_types types best;
        written = spelled;
        printed = spells_again t spelled.tokens spelled.spells;
      }

pub count_by : (l : LooseTree) (places : List OpenPlace) (count : ℕ) → places ≡ map place_of l.untyped → count ≡ type_count (record { tree = l.tree; untyped = places }) → count ≡ count_in l
count_by l places count same is = is ∙ ap (λ (ps : List OpenPlace). type_count (record { tree = l.tree; untyped = ps })) same

-- the same by what code has
module _ (l : LooseTree) (is : IsLoose l) (places : List OpenPlace) (open_places : places ≡ map place_of l.untyped) (count : ℕ) (counted : count ≡ count_in l) where
  tree_by : (types seen : List Ty) (t : Tree) → seen ≡ types → t ≡ filled (record { tree = l.tree; untyped = places }) seen → t ≡ filled (open_in l) types
  tree_by types seen t same made = made ∙ ap₂ (λ (ps : List OpenPlace) (tys : List Ty). filled (record { tree = l.tree; untyped = ps }) tys) open_places same

  pub solved_types : FillsAreDemanded → FillsAgree → FillsAreWritten → (p : Program) → IsMarked l p → (demands : ProgramDemands) → demands ≡ program_demands p → (known : ℕ) → count ≤ known
      → (types listed first : List Ty) (t : Tree) → FitsLast known demands types → listed ≡ types → first ≡ take count listed → t ≡ filled (record { tree = l.tree; untyped = places }) first → IsInferred l t
  solved_types demanded agree written p marked demands is_listed known more types listed first t best same taken made =
      inferred l is demanded p marked known (omega (arith, more, counted)) agree written types t
      (subst (λ d. FitsLast known d types) is_listed best)
      (tree_by (take (count_in l) types) first t (taken ∙ ap₂ (λ n xs. take n xs) counted same) made)

  pub solved_clash : FillsAreDemanded → (p : Program) → IsMarked l p → (demands : ProgramDemands) → demands ≡ program_demands p → (known : ℕ) → count ≤ known → (line : ℕ) → IsClash known demands line → HasNoTypes l line
  solved_clash demanded p marked demands listed known more line clash =
      clashes l is demanded p marked known (omega (arith, more, counted)) line (subst (λ d. IsClash known d line) listed clash)

  numbers_size : (first size : ℕ) → length (numbers_from first size) ≡ size
  numbers_size first zero = refl
  numbers_size first (suc size) = ap suc (numbers_size (suc first) size)

  unknowns_size : (unknowns : List Ty) → AreUnknowns count unknowns → length unknowns ≡ count
  unknowns_size unknowns numbers = sym (length-map unknowns unknown_in) ∙ ap length numbers ∙ length-map (numbers_from 0 count) Some ∙ numbers_size 0 count

  pub marked_fills : (unknowns seen : List Ty) (t : Tree) → AreUnknowns count unknowns → All IsDeclarable unknowns → seen ≡ unknowns → t ≡ filled (record { tree = l.tree; untyped = places }) seen → Fills l unknowns t
  marked_fills unknowns seen t numbers each same made = record {
    size = unknowns_size unknowns numbers ∙ counted;
    each = each;
    is = tree_by unknowns seen t same made;
  }

  pub marked_by : (unknowns : List Ty) (t : Tree) → AreUnknowns count unknowns → Fills l unknowns t → (p : Program) → Resolves t p → IsMarked l p
  marked_by unknowns t numbers fills p resolves = record {
    unknowns = unknowns;
    numbers = subst (λ k. AreUnknowns k unknowns) counted numbers;
    fills = record { size = fills.size; each = fills.each; is = refl };
    resolves = subst (λ u. Resolves u p) fills.is resolves;
  }

-- ---- what names and limits refuse

pub misnamed : (l : LooseTree) (types : List Ty) (t : Tree) (kind : ScopeKind) (line : ℕ) → Fills l types t → resolving.IsRefusedAs t (scope.Refused kind line) → IsMisnamed l kind line
misnamed l types t kind line fills is = record { types = types; tree = t; fills = fills; is = is }

pub too_large : (l : LooseTree) (types : List Ty) (t : Tree) (which : LimitKind) (line : ℕ) → Fills l types t → resolving.IsRefusedAs t (scope.Limit which line) → IsTooLarge l which line
too_large l types t which line fills is = record { types = types; tree = t; fills = fills; named = is.0; is = is.1 }

-- ---- one answer

some_same : {K : Type 0} (k j : K) (a b : ℕ) → ◌≡◌ {A = Option (Refused K)} (Some (record { kind = k; line = a })) (Some (record { kind = j; line = b })) → (k ≡ j) × (a ≡ b)
some_same {K} k j a b e = (
  ap (λ (o : Option (Refused K)). (unwrap_or {T = Refused K} o (record { kind = k; line = a })).kind) e,
  ap (λ (o : Option (Refused K)). (unwrap_or {T = Refused K} o (record { kind = k; line = a })).line) e,
)

none_some : {A : Type 0} {x : A} {o : Option A} → o ≡ None → o ≡ Some x → ⊥
none_some p q = cc

module _ (l : LooseTree) (is : IsLoose l) (agree : FillsAgree) where
  alike : {types others : List Ty} {t u : Tree} → Fills l types t → Fills l others u → Alike t u
  alike {types} {others} {t} {u} a b = agree l is types others t u a b

  name_clash : {t u : Tree} {found : Refused ScopeKind} → Alike t u → name_fault t ≡ Some found → name_refusals u ≡ [] → ⊥
  name_clash a e none = none_some (ap (told names.rank) (a.names ∙ none)) e

  limit_clash : {t u : Tree} {found : Refused LimitKind} → Alike t u → limit_fault t ≡ Some found → limit_refusals u ≡ [] → ⊥
  limit_clash a e none = none_some (ap (told limits.rank) (a.limits ∙ none)) e

  same_line : (a b : ℕ) → HasNoTypes l a → HasNoTypes l b → a ≡ b
  same_line a b p q = elim (cases_order a b) [
    | inl same ↦ same
    | inr (inl less) ↦ absurd (p.none (q.before a less))
    | inr (inr less) ↦ absurd (q.none (p.before b less))
  ]

  one_answer : (a b : InferFault) → IsRefusedAs l a → IsRefusedAs l b → a ≡ b
  one_answer (fault.Name k i) (fault.Name j n) p q =
      let same = some_same k j i n (sym p.is ∙ ap (told names.rank) (alike p.fills q.fills).names ∙ q.is) in
      ap₂ fault.Name same.0 same.1
  one_answer (fault.Name k i) (fault.Limit j n) p q = absurd (name_clash (alike p.fills q.fills) p.is q.named)
  one_answer (fault.Name k i) (fault.NoTypes n) p q = absurd (name_clash (alike p.fills q.fills) p.is q.named)
  one_answer (fault.Limit k i) (fault.Name j n) p q = absurd (name_clash (alike q.fills p.fills) q.is p.named)
  one_answer (fault.Limit k i) (fault.Limit j n) p q =
      let same = some_same k j i n (sym p.is ∙ ap (told limits.rank) (alike p.fills q.fills).limits ∙ q.is) in
      ap₂ fault.Limit same.0 same.1
  one_answer (fault.Limit k i) (fault.NoTypes n) p q = absurd (limit_clash (alike p.fills q.fills) p.is q.within)
  one_answer (fault.NoTypes i) (fault.Name j n) p q = absurd (name_clash (alike q.fills p.fills) q.is p.named)
  one_answer (fault.NoTypes i) (fault.Limit j n) p q = absurd (limit_clash (alike q.fills p.fills) q.is p.within)
  one_answer (fault.NoTypes i) (fault.NoTypes n) p q = ap fault.NoTypes (same_line i n p q)
  one_answer (fault.Name k i) fault.Memory p q = absurd q
  one_answer (fault.Limit k i) fault.Memory p q = absurd q
  one_answer (fault.NoTypes i) fault.Memory p q = absurd q
  one_answer fault.Memory b p q = absurd p

  none_inferred : (t : Tree) → IsInferred l t → (why : InferFault) → IsRefusedAs l why → ⊥
  none_inferred t i (fault.Name k n) p = name_clash (alike p.fills i.fills) p.is i.resolves.named
  none_inferred t i (fault.Limit k n) p = limit_clash (alike p.fills i.fills) p.is i.resolves.within
  none_inferred t i (fault.NoTypes n) p =
      p.none (record { types = i.types; tree = t; fills = i.fills; keeps = ap (none_upto n) (ap type_breaks (sym i.resolves.becomes) ∙ i.typed.keeps) })
  none_inferred t i fault.Memory p = p

  pub told_by : (r : Result Tree InferFault) → IfOk r (IsInferred l) → IfErr r (λ f. f ≢ fault.Memory → IsRefusedAs l f) → (why : InferFault) → IsRefusedAs l why
      → MatchResult r (λ tree. ⊥) (λ f. f ≢ fault.Memory → f ≡ why)
  told_by (Ok t) found refused why p = none_inferred t found why p
  told_by (Err f) found refused why p = λ other. one_answer f why (refused other) p
