-- Compiling the classes of a program one by one.
use Rattle.std.specs.Prelude.{◌≡◌, ℕ, zero, suc, ◌+◌, ◌<◌, Bool, true, false, ◌==◌, List, [], ◌∷◌, ◌++◌, length, map, take, Option, None, Some, refl, slice_get}
use Rattle.std.specs.List.{filter}
use Rattle.std.proofs.Common.{◌∙◌, ap, sym, subst, append-nil, arith, length-append, min}
use Rattle.std.proofs.lemmas.Bool.{eqb-true, eqb-false}
use Rattle.std.proofs.lemmas.List.{map-append, take_more}
use Rattle.std.proofs.lemmas.List.Elements.{filter-append}
use Rattle.std.proofs.lemmas.Option.{get_or_from_slice_get, slice_get_within}
use Rattle.da_lang.specs.declared.program.Class.{Class}
use Rattle.da_lang.specs.declared.program.Program.{Program}
use Rattle.da_lang.specs.Typing.{least, least_of}
use Rattle.query_plan.specs.declared.plan.Plan.{Plan}
use Rattle.query_plan.specs.Questions.{norm_class}
use Rattle.da_core.specs.declared.compiled.ClassCode.{ClassCode}
use Rattle.da_core.specs.declared.compiled.Compiled.{Compiled}
use Rattle.da_core.specs.declared.opened.Opened.{Opened}
use Rattle.da_core.specs.Compiled.{HasCode, IsCodeFor, IsCompiled, program_of}
use Rattle.da_core.specs.Opened.{opened}
use Rattle.da_core.specs.PlanLimit.{is_large, large_lines}
use Rattle.da_core.specs.Waits.{Waits, waits_of}
use Rattle.da_core.proofs.Tasks.{get_before, get_last}

-- within a list there is a member at each place
pub member_there : {A : Type 0} (xs : List A) (n : ℕ) → n < length xs → (x : A) × (slice_get xs n ≡ Some x)
member_there [] n inside = absurd (omega arith)
member_there (x ∷ xs) zero inside = (x, refl)
member_there (x ∷ xs) (suc n) inside = member_there xs n (omega arith)

-- THE CODES SO FAR

-- so many classes of the program have their code
pub record AreCoded (p : Program) (codes : List ClassCode) (n : ℕ) : Type 0 where
  pub count : length codes ≡ n
  pub each : (k : ℕ) (class : Class) → slice_get p.classes k ≡ Some class → k < n → HasCode p codes k class

module _ (p : Program) (codes : List ClassCode) (n : ℕ) (code : ClassCode) (are : AreCoded p codes n) (is : (class : Class) → slice_get p.classes n ≡ Some class → IsCodeFor p n class code) where
  by_place : (k : ℕ) (class : Class) → slice_get p.classes k ≡ Some class → (b : Bool) → (k == n) ≡ b → k < n + 1 → HasCode p (codes ++ code ∷ []) k class
  by_place k class there true same less =
      let here : k ≡ n = eqb-true k n same in
      record {
        code = code;
        there = ap (slice_get (codes ++ code ∷ [])) (here ∙ sym are.count) ∙ get_last codes code;
        is = subst (λ x. IsCodeFor p x class code) (sym here) (is class (ap (slice_get p.classes) (sym here) ∙ there));
      }
  by_place k class there false other less =
      let apart : k ≡ n → ⊥ = eqb-false k n other in
      let has = are.each k class there (omega (arith, less, apart)) in
      record { code = has.code; there = get_before codes (code ∷ []) k has.code has.there; is = has.is }

  one_coded : AreCoded p (codes ++ code ∷ []) (n + 1)
  one_coded = record {
    count = length-append codes (code ∷ []) ∙ ap (λ x. x + 1) are.count;
    each = λ k class there less. by_place k class there (k == n) refl less;
  }

-- THE EARLIEST LINE SO FAR

is_least : (a b : ℕ) → least_of a (Some b) ≡ min a b
is_least a b = grind arith

swapped : (a b : ℕ) (other : Option ℕ) → least_of a (Some (least_of b other)) ≡ least_of b (Some (least_of a other))
swapped a b None = is_least a b ∙ (let same : min a b ≡ min b a = omega arith in same) ∙ sym (is_least b a)
swapped a b (Some c) =
    is_least a (least_of b (Some c)) ∙ ap (min a) (is_least b c) ∙ (let same : min a (min b c) ≡ min b (min a c) = omega arith in same)
    ∙ sym (ap (min b) (is_least a c)) ∙ sym (is_least b (least_of a (Some c)))

least-more : (lines : List ℕ) (line : ℕ) → least (lines ++ line ∷ []) ≡ Some (least_of line (least lines))
least-more [] line = refl
least-more (other ∷ lines) line = ap (λ x. Some (least_of other x)) (least-more lines line) ∙ ap Some (swapped other line (least lines))

large-append : (xs ys : List Class) → large_lines (xs ++ ys) ≡ large_lines xs ++ large_lines ys
large-append xs ys = ap (map (λ (c : Class). c.line)) (filter-append is_large xs ys) ∙ map-append (λ (c : Class). c.line) (filter is_large xs) (filter is_large ys)

module _ (classes : List Class) (n : ℕ) (class : Class) (there : slice_get classes n ≡ Some class) where
  large_more : large_lines (take (n + 1) classes) ≡ large_lines (take n classes) ++ large_lines (class ∷ [])
  large_more =
      ap large_lines (take_more classes n class (slice_get_within classes n class there) ∙ ap (λ c. take n classes ++ c ∷ []) (get_or_from_slice_get classes n class class there))
      ∙ large-append (take n classes) (class ∷ [])

  not_large : is_large class ≡ false → large_lines (take (n + 1) classes) ≡ large_lines (take n classes)
  not_large is = large_more ∙ ap (λ ls. large_lines (take n classes) ++ ls) (rw is refl) ∙ append-nil (large_lines (take n classes))

  a_large_one : is_large class ≡ true → large_lines (take (n + 1) classes) ≡ large_lines (take n classes) ++ class.line ∷ []
  a_large_one is = large_more ∙ ap (λ ls. large_lines (take n classes) ++ ls) (rw is refl)

-- THE WAY THROUGH THE CLASSES

-- The earliest line of those among the first classes that have too many nodes. Where there is none, each of them has its code.
pub record Came (p : Program) (codes : List ClassCode) (found : Option ℕ) (n : ℕ) : Type 0 where
  pub so_far : found ≡ least (large_lines (take n p.classes))
  pub coded : found ≡ None → AreCoded p codes n

module _ (p : Program) (codes : List ClassCode) (found : Option ℕ) (n : ℕ) (came : Came p codes found n) (class : Class) (there : slice_get p.classes n ≡ Some class) where
  pub one_more : (code : ClassCode) → ((c : Class) → slice_get p.classes n ≡ Some c → IsCodeFor p n c code) → is_large class ≡ false → Came p (codes ++ code ∷ []) found (n + 1)
  one_more code is few = record {
    so_far = came.so_far ∙ sym (ap least (not_large p.classes n class there few));
    coded = λ none. one_coded p codes n code (came.coded none) is;
  }

  pub one_large : (line : ℕ) → line ≡ class.line → is_large class ≡ true → Came p codes (Some (least_of line found)) (n + 1)
  one_large line is large = record {
    so_far = ap (λ x. Some (least_of x found)) is ∙ ap (λ x. Some (least_of class.line x)) came.so_far
        ∙ sym (ap least (a_large_one p.classes n class there large) ∙ least-more (large_lines (take n p.classes)) class.line);
    coded = λ none. absurd (cc);
  }

pub came_as : (p : Program) (codes others : List ClassCode) (found other : Option ℕ) (n : ℕ) → codes ≡ others → found ≡ other → Came p others other n → Came p codes found n
came_as p codes others found other n same_codes same_found came = subst (λ cs. Came p cs found n) (sym same_codes) (subst (λ o. Came p others o n) (sym same_found) came)

-- ONE CLASS

module _ (p lent : Program) (place : ℕ) (class : Class) (same : lent ≡ p) (there : slice_get p.classes place ≡ Some class) where
  one_class : (found : Option Class) → found ≡ slice_get lent.classes place → found ≡ Some class
  one_class found is = is ∙ ap (λ (x : Program). slice_get x.classes place) same ∙ there

  -- what is waited for in the class that was found by its place, with the flags of its plan
  pub waits_found : (found : Class) → Some found ≡ slice_get lent.classes place → (plan : Plan) → plan ≡ norm_class class → (flags : List ℕ) → flags ≡ plan.flags
      → (waits : Waits) → waits ≡ waits_of found flags → waits ≡ waits_of class (norm_class class).flags
  waits_found found is plan planned flags all waits made =
      let both : ◌≡◌ {A = Option Class} (Some found) (Some class) = one_class (Some found) is in
      let one : found ≡ class = cc in
      made ∙ ap (λ c. waits_of c flags) one ∙ ap (waits_of class) (all ∙ ap (λ (x : Plan). x.flags) planned)

  -- the opened patterns of its handlers
  pub opened_found : (found : Class) → Some found ≡ slice_get lent.classes place → (all : List Opened) → all ≡ map opened found.handlers → all ≡ map opened class.handlers
  opened_found found is all made =
      let both : ◌≡◌ {A = Option Class} (Some found) (Some class) = one_class (Some found) is in
      let one : found ≡ class = cc in
      made ∙ ap (λ (c : Class). map opened c.handlers) one

  pub class_found : None ≡ slice_get lent.classes place → ⊥
  class_found none = let both : ◌≡◌ {A = Option Class} None (Some class) = one_class None none in cc

-- IN A COMPILED PROGRAM

module _ (c : Compiled) (is : IsCompiled c) (place : ℕ) where
  -- the code of each class is there, with its plan
  pub code_there : place < length (program_of c).classes → None ≡ slice_get c.codes place → ⊥
  code_there inside none =
      let (class, there) = member_there (program_of c).classes place inside in
      let has = is.classes place class there in
      let both : ◌≡◌ {A = Option ClassCode} None (Some has.code) = none ∙ has.there in
      cc

  pub plan_there : (class : Class) → slice_get (program_of c).classes place ≡ Some class → (code : ClassCode) → Some code ≡ slice_get c.codes place → code.plan ≡ norm_class class
  plan_there class there code found =
      let has = is.classes place class there in
      let both : ◌≡◌ {A = Option ClassCode} (Some code) (Some has.code) = found ∙ has.there in
      let same : code ≡ has.code = cc in
      ap (λ (x : ClassCode). x.plan) same ∙ has.is.plan
