-- What the graph of numbers says of the names of a class.
use Rattle.std.proofs.Common.{◌≡◌, ◌∙◌, ◌↔◌, ℕ, ◌+◌, ◌<◌, true, List, [], ◌∷◌, ◌++◌, length, take, drop, reverse, get_or, filter_map, Option, Some, None, Contains, subst, sym, refl, ap, ⊎_elim, arith}
use Rattle.std.specs.List.{slice_get, list_any}
use Rattle.std.specs.Option.{option_and_then, option_map}
use Rattle.std.proofs.lemmas.List.{length-map, reverse-append, reverse-reverse, take-append-drop, take_more}
use Rattle.std.proofs.lemmas.List.Elements.{Contains-append_left, Contains-push}
use Rattle.std.proofs.lemmas.Option.{slice_get-map, slice_get_within, get_or_from_slice_get}
use Rattle.da_lang.specs.declared.tree.ClassTree.{ClassTree}
use Rattle.da_lang.specs.Calls.{called, is_yield, calls_in, leads, yields}
use Rattle.da_lang.specs.ClassParts.{Body, InMethod, bodies, method_of, method_name, is_method, stmts_if}
use Rattle.da_lang.specs.Deeds.{Deed, deeds}
use Rattle.da_lang.specs.Limits.{root_calls, is_reached}
use Rattle.da_calls.specs.CallBodies.{calls_by, some_yield}
use Rattle.da_calls.specs.CallGraph.{IsOrdered, TellsCalls}
use Rattle.da_calls.specs.CallMethods.{Numbering}
use Rattle.da_calls.specs.CallOrder.{Same, IsLeft, AreLeft, Leaves}
use Rattle.da_calls.specs.CallPaths.{LeadsTo, here, on, Graph, next_in, Edge, IsGraph, Leads, mark, IsMarked, MarksReached}
use Rattle.da_calls.specs.CallCycles.{IsTurned, MarksCycles}
use Rattle.da_calls.specs.CallRows.{call_rows, HoldsYield, AreYieldPoints, outside_deeds}
use Rattle.da_calls.proofs.CallBounds.{in_none, in_cases, any_in, in_any, in_filter_map, filter_map_in, find_in, none_is_some, some_same, name_of_method, caller_is_method, leads-way, way-leads, holds_yield, yields-way, way-yields, false_true}
use Rattle.da_calls.proofs.CallCycles.{edge_within, turned_way, way_turned}
use Rattle.da_calls.proofs.CallMethods.{slice_get-some}

-- members of turned lists
pub reverse_has : (xs : List ℕ) (x : ℕ) → Contains xs x → Contains (reverse xs) x
reverse_has [] x has = absurd (in_none x has)
reverse_has (y ∷ ys) x has =
    subst (λ l. Contains l x) (sym (reverse-append (y ∷ []) ys))
    (⊎_elim (λ same. subst (λ z. Contains (reverse ys ++ y ∷ []) z) same (Contains-push (reverse ys) y)) (λ h. Contains-append_left (reverse ys) (y ∷ []) x (reverse_has ys x h)) (in_cases y ys x has))

pub has_reverse : (xs : List ℕ) (x : ℕ) → Contains (reverse xs) x → Contains xs x
has_reverse xs x has = subst (λ l. Contains l x) (reverse-reverse xs) (reverse_has (reverse xs) x has)

module _ (c : ClassTree) (methods : List Body) (number : List ℕ → Option ℕ) (n : Numbering (bodies c) methods number) where
  -- a name with a number has the method of that place
  pub method_at : (name : List ℕ) (k : ℕ) → number name ≡ Some k → (b : Body) × (slice_get methods k ≡ Some b) × (method_of c name ≡ Some b)
  method_at name k is =
      let there : (b : Body) × (slice_get methods k ≡ Some b) = slice_get-some methods k (n.within name k is) in
      (there.0, there.1, n.found name ∙ ap (option_and_then (slice_get methods)) is ∙ there.1)

  -- a name with a method has a number
  pub numbered_method : (name : List ℕ) (b : Body) → method_of c name ≡ Some b → (k : ℕ) × (number name ≡ Some k)
  numbered_method name b has = go (number name) refl
    where
      go : (o : Option ℕ) → number name ≡ o → (k : ℕ) × (number name ≡ Some k)
      go None e = absurd (none_is_some b (sym (n.found name ∙ ap (option_and_then (slice_get methods)) e) ∙ has))
      go (Some k) e = (k, e)

  pub caller_numbered : (name next : List ℕ) → Contains (calls_in c name) next → (k : ℕ) × (number name ≡ Some k)
  caller_numbered name next has = let m : (b : Body) × (method_of c name ≡ Some b) = caller_is_method c name next has in numbered_method name m.0 m.1

  pub next_row : (name : List ℕ) (k : ℕ) → number name ≡ Some k → next_in (call_rows number methods) k ≡ filter_map number (calls_in c name)
  unfolding calls_by
  next_row name k is =
      let m : (b : Body) × (slice_get methods k ≡ Some b) × (method_of c name ≡ Some b) = method_at name k is in
      get_or_from_slice_get (call_rows number methods) k (calls_by number (deeds m.0.stmts)) []
      (slice_get-map (λ b. calls_by number (deeds b.stmts)) methods k ∙ ap (option_map (λ b. calls_by number (deeds b.stmts))) m.1)
      ∙ sym (ap (λ o. filter_map number (filter_map (λ d. called d.does) (deeds (stmts_if o)))) m.2)

  pub rows_graph : IsGraph (call_rows number methods)
  rows_graph m j e =
      let within : m < length (call_rows number methods) = edge_within (call_rows number methods) m j e in
      let name : (x : List ℕ) × (number x ≡ Some m) = n.named m (subst (λ size. m < size) (length-map methods _) within) in
      let found : (z : List ℕ) × Contains (calls_in c name.0) z × (number z ≡ Some j) = filter_map_in number (calls_in c name.0) j (subst (λ row. Contains row j) (next_row name.0 m name.1) e) in
      subst (λ size. j < size) (sym (length-map methods _)) (n.within found.0 j found.2)

  pub leader_numbered : (y : List ℕ) (j : ℕ) (z : List ℕ) → number y ≡ Some j → LeadsTo (calls_in c) y z → (k : ℕ) × (number z ≡ Some k)
  leader_numbered y j z is (here m e) = (j, ap number e ∙ is)
  leader_numbered y j z is (on m k step way) = caller_numbered m k step

  -- no two names have one number
  pub one_name : (x y : List ℕ) (k : ℕ) → number x ≡ Some k → number y ≡ Some k → x ≡ y
  one_name x y k is other =
      let m : (b : Body) × (slice_get methods k ≡ Some b) × (method_of c x ≡ Some b) = method_at x k is in
      let l : (b : Body) × (slice_get methods k ≡ Some b) × (method_of c y ≡ Some b) = method_at y k other in
      let same : m.0 ≡ l.0 = some_same m.0 l.0 (sym m.1 ∙ l.1) in
      let at_x : m.0.place ≡ InMethod x = name_of_method x m.0.place (find_in (λ b. is_method x b.place) (bodies c) m.0 m.2).1 in
      let at_y : l.0.place ≡ InMethod y = name_of_method y l.0.place (find_in (λ b. is_method y b.place) (bodies c) l.0 l.2).1 in
      some_same x y (ap method_name (sym at_x ∙ ap (λ b. b.place) same ∙ at_y))

  pub to_names : (j k : ℕ) (x y : List ℕ) → number y ≡ Some j → number x ≡ Some k → Leads (call_rows number methods) k j → LeadsTo (calls_in c) y x
  to_names j k x y y_is x_is (here m e) = here x (one_name x y j (x_is ∙ ap Some e) y_is)
  to_names j k x y y_is x_is (on m l step way) =
      let found : (z : List ℕ) × Contains (calls_in c x) z × (number z ≡ Some l) = filter_map_in number (calls_in c x) l (subst (λ row. Contains row l) (next_row x m x_is) step) in
      on x found.0 found.1 (to_names j l found.0 y y_is found.2 way)

  pub to_numbers : (j : ℕ) (y : List ℕ) (k : ℕ) (x : List ℕ) → number y ≡ Some j → number x ≡ Some k → LeadsTo (calls_in c) y x → Leads (call_rows number methods) k j
  to_numbers j y k x y_is x_is (here m e) = here k (some_same k j (sym x_is ∙ ap number e ∙ y_is))
  to_numbers j y k x y_is x_is (on m z step way) =
      let l : (i : ℕ) × (number z ≡ Some i) = leader_numbered y j z y_is way in
      on k l.0 (subst (λ row. Contains row l.0) (sym (next_row m k x_is)) (in_filter_map number (calls_in c m) z l.0 step l.1)) (to_numbers j y l.0 z y_is l.1 way)

  -- by the definitions of the language
  pub leads_iff : (x y : List ℕ) (k j : ℕ) → number x ≡ Some k → number y ≡ Some j → (leads c x y ≡ true) ↔ Leads (call_rows number methods) k j
  leads_iff x y k j x_is y_is = ((λ e. to_numbers j y k x y_is x_is (way-leads c y x e)), (λ way. leads-way c y x (to_names j k x y y_is x_is way)))

  -- marks of cycles
  pub cycles_law : (cycles : List (Option ℕ)) → MarksCycles (call_rows number methods) cycles → (x y : List ℕ) (k j : ℕ) → number x ≡ Some k → number y ≡ Some j
      → (mark cycles k ≡ mark cycles j) ↔ ((leads c x y ≡ true) × (leads c y x ≡ true))
  cycles_law cycles marks x y k j x_is y_is =
      let size : length (call_rows number methods) ≡ length methods = length-map methods _ in
      let k_in : k < length methods = n.within x k x_is in
      let j_in : j < length methods = n.within y j y_is in
      let same : (mark cycles k ≡ mark cycles j) ↔ Same (call_rows number methods) k j = marks.same k j (omega (arith, size, k_in)) (omega (arith, size, j_in)) in (
        (λ e. let s : Same (call_rows number methods) k j = same.0 e in ((leads_iff x y k j x_is y_is).1 s.0, (leads_iff y x j k y_is x_is).1 s.1)),
        (λ both. same.1 ((leads_iff x y k j x_is y_is).0 both.0, (leads_iff y x j k y_is x_is).0 both.1)),
      )

  -- a name with a number, by the method of that place
  holds_at : (name : List ℕ) (k : ℕ) (b : Body) → number name ≡ Some k → slice_get methods k ≡ Some b → holds_yield c name ≡ some_yield (deeds b.stmts)
  unfolding some_yield
  holds_at name k b is there =
      let m : (x : Body) × (slice_get methods k ≡ Some x) × (method_of c name ≡ Some x) = method_at name k is in
      ap (λ o. list_any (λ d. is_yield d.does) (deeds (stmts_if o))) (m.2 ∙ ap Some (some_same m.0 b (sym m.1 ∙ there)))

  holder_numbered : (name : List ℕ) → holds_yield c name ≡ true → (k : ℕ) × (number name ≡ Some k)
  holder_numbered name holds = go (method_of c name) refl
    where
      go : (o : Option Body) → method_of c name ≡ o → (k : ℕ) × (number name ≡ Some k)
      go None e = absurd (false_true (sym (ap (λ o. list_any (λ d. is_yield d.does) (deeds (stmts_if o))) e) ∙ holds))
      go (Some b) e = numbered_method name b e

  -- marks of methods that yield
  pub yields_law : (back : Graph) (points : List ℕ) (marks : List (Option ℕ)) → IsTurned (call_rows number methods) back → AreYieldPoints methods points → MarksReached back points marks → (x : List ℕ) (k : ℕ) → number x ≡ Some k
      → IsMarked marks k ↔ (yields c x ≡ true)
  yields_law back points marks t y r x k x_is = (
    (λ is.
        let from : (s : ℕ) × Contains points s × Leads back s k = (r.reached k).0 is in
        let holds : HoldsYield methods from.0 = (y.all from.0).0 from.1 in
        let name : (z : List ℕ) × (number z ≡ Some from.0) = n.named from.0 (slice_get_within methods from.0 holds.0 holds.1) in
        yields-way c name.0 x (to_names from.0 k x name.0 name.1 x_is (turned_way (call_rows number methods) back k from.0 t from.2))
        (holds_at name.0 from.0 holds.0 name.1 holds.1 ∙ holds.2)),
    (λ e.
        let found : (goal : List ℕ) × LeadsTo (calls_in c) goal x × (holds_yield c goal ≡ true) = way-yields c x e in
        let s : (i : ℕ) × (number found.0 ≡ Some i) = holder_numbered found.0 found.2 in
        let m : (b : Body) × (slice_get methods s.0 ≡ Some b) × (method_of c found.0 ≡ Some b) = method_at found.0 s.0 s.1 in
        (r.reached k).1 (
          s.0,
          (y.all s.0).1 (m.0, m.1, sym (holds_at found.0 s.0 m.0 s.1 m.1) ∙ found.2),
          way_turned (call_rows number methods) back s.0 k t (to_numbers s.0 found.0 k x s.1 x_is found.1),
        )),
  )

  -- marks of methods that are reached
  pub reached_law : (starts : List ℕ) (marks : List (Option ℕ)) → starts ≡ calls_by number (outside_deeds (bodies c)) → MarksReached (call_rows number methods) starts marks → (x : List ℕ) (k : ℕ) → number x ≡ Some k
      → IsMarked marks k ↔ (is_reached c (InMethod x) ≡ true)
  unfolding calls_by
  reached_law starts marks is r x k x_is = (
    (λ marked.
        let from : (s : ℕ) × Contains starts s × Leads (call_rows number methods) s k = (r.reached k).0 marked in
        let call : (z : List ℕ) × Contains (root_calls c) z × (number z ≡ Some from.0) = filter_map_in number (root_calls c) from.0 (subst (λ l. Contains l from.0) is from.1) in
        in_any (λ z. leads c z x) (root_calls c) call.0 call.1 ((leads_iff call.0 x from.0 k call.2 x_is).1 from.2)),
    (λ e.
        let call : (z : List ℕ) × Contains (root_calls c) z × (leads c z x ≡ true) = any_in (λ z. leads c z x) (root_calls c) e in
        let s : (i : ℕ) × (number call.0 ≡ Some i) = leader_numbered x k call.0 x_is (way-leads c x call.0 call.2) in
        (r.reached k).1 (s.0, subst (λ l. Contains l s.0) (sym is) (in_filter_map number (root_calls c) call.0 s.0 call.1 s.1), (leads_iff call.0 x s.0 k s.1 x_is).0 call.2)),
  )

  -- a call in the order of leaving
  left_part : (g : Graph) (xs ys : List ℕ) → AreLeft g (xs ++ ys) → AreLeft g ys
  left_part g [] ys l = l
  left_part g (x ∷ xs) ys l = left_part g xs ys l.1

  left_at : (g : Graph) (order : List ℕ) (i : ℕ) → i < length order → AreLeft g (reverse order) → IsLeft g (reverse (take i order)) (get_or order i 0)
  left_at g order i within l =
      let split : reverse order ≡ reverse (drop (i + 1) order) ++ reverse (take (i + 1) order) = ap reverse (sym (take-append-drop (i + 1) order)) ∙ reverse-append (take (i + 1) order) (drop (i + 1) order) in
      let front : reverse (take (i + 1) order) ≡ get_or order i 0 ∷ reverse (take i order) = ap reverse (take_more order i 0 within) ∙ reverse-append (take i order) (get_or order i 0 ∷ []) in
      (subst (AreLeft g) front (left_part g (reverse (drop (i + 1) order)) (reverse (take (i + 1) order)) (subst (AreLeft g) split l))).0

  pub order_law : (order : List ℕ) → Leaves (call_rows number methods) order → IsOrdered c methods number order
  order_law order leaves = record {
    all = λ k within. has_reverse order k (leaves.all k (subst (λ size. k < size) (sym (length-map methods _)) within));
    within = λ i h. subst (λ size. get_or order i 0 < size) (length-map methods _) (left_at (call_rows number methods) order i h leaves.left).within;
    once = λ i h has. (left_at (call_rows number methods) order i h leaves.left).fresh (reverse_has (take i order) (get_or order i 0) has);
    behind = λ i name next k h name_is next_is calls back.
        let step : Edge (call_rows number methods) (get_or order i 0) k = subst (λ row. Contains row k) (sym (next_row name (get_or order i 0) name_is)) (in_filter_map number (calls_in c name) next k calls next_is) in
        ⊎_elim
        (λ has. has_reverse (take i order) k has)
        (λ way. absurd (false_true (sym back ∙ (leads_iff next name k (get_or order i 0) next_is name_is).1 way)))
        ((left_at (call_rows number methods) order i h leaves.left).goes k step);
  }

  -- what starts searches
  pub points_within : (points : List ℕ) → AreYieldPoints methods points → (k : ℕ) → Contains points k → k < length methods
  points_within points y k has = let holds : HoldsYield methods k = (y.all k).0 has in slice_get_within methods k holds.0 holds.1

  pub calls_within : (ds : List Deed) (k : ℕ) → Contains (calls_by number ds) k → k < length methods
  unfolding calls_by
  calls_within ds k has = let found : (z : List ℕ) × Contains (filter_map (λ d. called d.does) ds) z × (number z ≡ Some k) = filter_map_in number (filter_map (λ d. called d.does) ds) k has in n.within found.0 k found.2

-- what is made of a class
pub record Made (c : ClassTree) (methods : List Body) (number : List ℕ → Option ℕ) (graph back : Graph) (order points starts : List ℕ) (cycles yielding reached : List (Option ℕ)) : Type 0 where
  pub numbers : Numbering (bodies c) methods number
  pub rows : graph ≡ call_rows number methods
  pub turned : IsTurned graph back
  pub leaves : Leaves graph order
  pub marks : MarksCycles graph cycles
  pub holding : AreYieldPoints methods points
  pub from_points : MarksReached back points yielding
  pub starting : starts ≡ calls_by number (outside_deeds (bodies c))
  pub from_starts : MarksReached graph starts reached

pub made_tells : (c : ClassTree) (methods : List Body) (number : List ℕ → Option ℕ) (graph back : Graph) (order points starts : List ℕ) (cycles yielding reached : List (Option ℕ)) → Made c methods number graph back order points starts cycles yielding reached → TellsCalls c methods number order cycles yielding reached
made_tells c methods number graph back order points starts cycles yielding reached m =
    let t : IsTurned (call_rows number methods) back = subst (λ g. IsTurned g back) m.rows m.turned in
    let size : length (call_rows number methods) ≡ length methods = length-map methods _ in
    let marks : MarksCycles (call_rows number methods) cycles = subst (λ g. MarksCycles g cycles) m.rows m.marks in
    let from_starts : MarksReached (call_rows number methods) starts reached = subst (λ g. MarksReached g starts reached) m.rows m.from_starts in
    record {
      numbers = m.numbers;
      ordered = order_law c methods number m.numbers order (subst (λ g. Leaves g order) m.rows m.leaves);
      cycles_sized = marks.sized ∙ size;
      yielding_sized = m.from_points.sized ∙ t.sized ∙ size;
      reached_sized = from_starts.sized ∙ size;
      cycle = cycles_law c methods number m.numbers cycles marks;
      yields_at = yields_law c methods number m.numbers back points yielding t m.holding m.from_points;
      reached_at = reached_law c methods number m.numbers starts reached m.starting from_starts;
    }

pub made_graph : (c : ClassTree) (methods : List Body) (number : List ℕ → Option ℕ) (graph : Graph) → Numbering (bodies c) methods number → graph ≡ call_rows number methods → IsGraph graph
made_graph c methods number graph n rows = subst IsGraph (sym rows) (rows_graph c methods number n)

pub made_sized : (methods : List Body) (number : List ℕ → Option ℕ) (graph : Graph) → graph ≡ call_rows number methods → length graph ≡ length methods
made_sized methods number graph rows = ap length rows ∙ length-map methods _
