-- What a graph of the calls of a class says of its methods.
use Rattle.std.specs.Prelude.{◌≡◌, ◌↔◌, ℕ, ◌<◌, true, false, List, length, take, Option, Some, slice_index, Contains}
use Rattle.da_lang.specs.declared.tree.ClassTree.{ClassTree}
use Rattle.da_lang.specs.Calls.{calls_in, leads, yields}
use Rattle.da_lang.specs.ClassParts.{Body, InMethod, bodies}
use Rattle.da_lang.specs.Limits.{is_reached}
use Rattle.da_calls.specs.declared.graph.CallGraph.{CallGraph}
use Rattle.da_calls.specs.CallMethods.{Numbering, numbered}
use Rattle.da_calls.specs.CallNames.{number_in}
use Rattle.da_calls.specs.CallPaths.{mark, IsMarked}

-- the methods by their numbers, each after those that it calls, where no call leads back
pub record IsOrdered (c : ClassTree) (methods : List Body) (number : List ℕ → Option ℕ) (order : List ℕ) : Type 0 where
  pub all : (k : ℕ) → k < length methods → Contains order k
  pub within : (i : ℕ) → i < length order → slice_index order i < length methods
  pub once : (i : ℕ) → i < length order → Contains (take i order) (slice_index order i) → ⊥
  pub behind : (i : ℕ) (name next : List ℕ) (k : ℕ) → i < length order → number name ≡ Some (slice_index order i) → number next ≡ Some k
      → Contains (calls_in c name) next → leads c next name ≡ false → Contains (take i order) k

-- the class of a graph, its methods, and their numbers
abbrev pub class_in : CallGraph → ClassTree
class_in g = g.class.now

abbrev pub methods_in : CallGraph → List Body
methods_in g = numbered g.methods

abbrev pub number_of : CallGraph → List ℕ → Option ℕ
number_of g = number_in g.methods.numbers

-- The order of the methods, and what their marks tell: two have one mark where each leads to the other, and those that
-- yield, or are reached, have some mark.
pub record TellsCalls (c : ClassTree) (methods : List Body) (number : List ℕ → Option ℕ) (order : List ℕ) (cycles yielding reached : List (Option ℕ)) : Type 0 where
  pub numbers : Numbering (bodies c) methods number
  pub ordered : IsOrdered c methods number order
  pub cycles_sized : length cycles ≡ length methods
  pub yielding_sized : length yielding ≡ length methods
  pub reached_sized : length reached ≡ length methods
  pub cycle : (x y : List ℕ) (k j : ℕ) → number x ≡ Some k → number y ≡ Some j → (mark cycles k ≡ mark cycles j) ↔ ((leads c x y ≡ true) × (leads c y x ≡ true))
  pub yields_at : (x : List ℕ) (k : ℕ) → number x ≡ Some k → IsMarked yielding k ↔ (yields c x ≡ true)
  pub reached_at : (x : List ℕ) (k : ℕ) → number x ≡ Some k → IsMarked reached k ↔ (is_reached c (InMethod x) ≡ true)

abbrev pub IsCallGraph : CallGraph → Type 0
IsCallGraph g = TellsCalls g.class.now (methods_in g) (number_of g) g.order g.cycles.items g.yielding.items g.reached.items
