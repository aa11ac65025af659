-- What the limits leave of the lines of `main` and of the classes.
use Rattle.std.specs.Prelude.{if◌then◌else◌, nat_lt}
use Rattle.std.proofs.Common.{◌≡◌, ◌∙◌, ap, sym, refl, ℕ, zero, suc, ◌+◌, ◌<◌, ◌≤◌, Bool, true, false, List, [], ◌∷◌, ◌++◌, length, get_or, take, map, drop, length-drop, arith}
use Rattle.std.proofs.lemmas.Bool.{ltb-false}
use Rattle.std.proofs.lemmas.List.Sums.{sum_by-cons}
use Rattle.da_lang.specs.declared.refusal.LimitKind.{LimitKind}
use Rattle.da_lang.specs.declared.refusal.LimitKind.TheVariants as limit
use Rattle.da_lang.specs.declared.tree.ClassTree.{ClassTree}
use Rattle.da_lang.specs.declared.tree.MainLine.{MainLine}
use Rattle.da_lang.specs.declared.tree.Tree.{Tree}
use Rattle.da_lang.specs.Limits.{blocks_over, classes_over, generators_over, items_over, limit_refusals, line_of_main, most_classes, most_processes, parts_over, processes_over, variables_over}
use Rattle.da_lang.specs.Resolution.{made_count}
use Rattle.da_lang.specs.Scopes.{Refused, at_lines}
use Rattle.da_scope.specs.MakingView.{made_by}
use Rattle.std.specs.List.{flat_map}

made_by-cons : (l : MainLine) (lines : List MainLine) → made_by (l ∷ lines) ≡ made_count l + made_by lines
made_by-cons l lines = sum_by-cons (λ (n : ℕ). n) (made_count l) (map made_count lines)

-- what the lines before a line make, with what it makes
pub made_within : (lines : List MainLine) (i : ℕ) (l : MainLine) → i < length lines → l ≡ get_or lines i l → made_by (take i lines) + made_count l ≤ made_by lines
made_within [] i l inside here = absurd (omega (arith, inside))
made_within (k ∷ lines) zero l inside here = omega (arith, ap made_count here, made_by-cons k lines)
made_within (k ∷ lines) (suc i) l inside here = omega (arith, made_within lines i l (omega (arith, inside)) here, made_by-cons k lines, made_by-cons k (take i lines))

pub one_within : (lines all : List MainLine) (i : ℕ) (l : MainLine) → lines ≡ all → made_by all ≤ 64 → i < length lines → l ≡ get_or lines i l → made_count l ≤ 64
one_within lines all i l is few inside here = omega (arith, few, ap made_by is, made_within lines i l inside here)

none_first : {A : Type 0} (xs ys : List A) → xs ++ ys ≡ [] → xs ≡ []
none_first [] ys e = refl
none_first (x ∷ xs) ys e = absurd (cc)

none_second : {A : Type 0} (xs ys : List A) → xs ++ ys ≡ [] → ys ≡ []
none_second [] ys e = e
none_second (x ∷ xs) ys e = absurd (cc)

none_mapped : {A B : Type 0} (f : A → B) (xs : List A) → map f xs ≡ [] → length xs ≡ 0
none_mapped f [] e = refl
none_mapped f (x ∷ xs) e = absurd (cc)

classes-is : most_classes ≡ 32
unfolding most_classes
classes-is = refl

processes-is : most_processes ≡ 64
unfolding most_processes
processes-is = refl

record FirstLimits (t : Tree) : Type 0 where
  classes : at_lines limit.Classes (classes_over t) ≡ []
  processes : at_lines limit.Processes (processes_over 0 t.main) ≡ []

first_limits : (t : Tree) → limit_refusals t ≡ [] → FirstLimits t
unfolding limit_refusals
first_limits t within =
    let both = none_first (at_lines limit.Classes (classes_over t) ++ at_lines limit.Processes (processes_over 0 t.main)) (at_lines limit.Items (flat_map items_over t.classes))
    (none_first _ (at_lines limit.Blocks (flat_map blocks_over t.classes))
    (none_first _ (at_lines limit.Variables (flat_map variables_over t.classes))
    (none_first _ (at_lines limit.Parts (parts_over t))
    (none_first _ (at_lines limit.Generators (flat_map generators_over t.classes)) within)))) in
    record {
      classes = none_first (at_lines limit.Classes (classes_over t)) (at_lines limit.Processes (processes_over 0 t.main)) both;
      processes = none_second (at_lines limit.Classes (classes_over t)) (at_lines limit.Processes (processes_over 0 t.main)) both;
    }

none_classes : (cs : List ClassTree) → length (map (λ (c : ClassTree). c.line) cs) ≡ 0 → length cs ≡ 0
none_classes [] e = refl
none_classes (c ∷ cs) e = absurd (omega (arith, e))

pub few_classes : (t : Tree) → limit_refusals t ≡ [] → length t.classes ≤ 32
few_classes t within =
    let over = none_mapped (λ (line : ℕ). let r : Refused LimitKind = record { kind = limit.Classes; line = line } in r) (classes_over t) (first_limits t within).classes in
    let rest : length (drop most_classes t.classes) ≡ 0 = none_classes (drop most_classes t.classes) over in
    omega (arith, rest, length-drop most_classes t.classes, classes-is)

few_by : (line more : ℕ) (rest : List ℕ) (b : Bool) → (b ≡ false → length rest ≡ 0 → more ≤ 64) → length (if b then line ∷ [] else rest) ≡ 0 → more ≤ 64
few_by line more rest true go none = absurd (omega (arith, none))
few_by line more rest false go none = go refl none

few_from : (lines : List MainLine) (before : ℕ) → before ≤ 64 → length (processes_over before lines) ≡ 0 → before + made_by lines ≤ 64
few_from [] before few none = omega (arith, few)
few_from (l ∷ lines) before few none =
    let next = before + made_count l in
    let found : next + made_by lines ≤ 64 = few_by (line_of_main l) (next + made_by lines) (processes_over next lines) (nat_lt most_processes next)
    (λ under none. few_from lines next (omega (arith, ltb-false most_processes next under, processes-is)) none) none in
    omega (arith, found, made_by-cons l lines)

pub few_made : (t : Tree) → limit_refusals t ≡ [] → made_by t.main ≤ 64
few_made t within =
    let over = none_mapped (λ (line : ℕ). let r : Refused LimitKind = record { kind = limit.Processes; line = line } in r) (processes_over 0 t.main) (first_limits t within).processes in
    omega (arith, few_from t.main 0 (omega arith) over)
