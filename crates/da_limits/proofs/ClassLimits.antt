-- What limits a class exceeds, by its extent and by the queries in its members.
use Rattle.std.specs.Prelude.{◌≡◌, refl, ℕ, ◌+◌, ◌<◌, ◌≤◌, nat_lt, ◌||◌, ◌&&◌, Bool, true, false, List, [], ◌∷◌, length, map, flat_map, filter, filter_map, find, Option, Some, None, IsSome, Contains}
use Rattle.std.specs.List.{list_any, fold}
use Rattle.std.proofs.Common.{◌∙◌, ap, sym, arith, cond, get_or, drop, subst, ⊎_elim}
use Rattle.std.proofs.lemmas.List.Folds.{list_any-append}
use Rattle.da_lang.specs.declared.refusal.LimitKind.TheVariants as limit
use Rattle.da_lang.specs.declared.tree.ClassTree.{ClassTree}
use Rattle.da_lang.specs.declared.tree.Member.{Member}
use Rattle.da_lang.specs.declared.tree.Member.TheVariants as member
use Rattle.da_lang.specs.declared.tree.Stmt.{Stmt}
use Rattle.da_lang.specs.ClassParts.{Body, InSetup, InRun, InMethod, InHandler, bodies, bodies_where, body_in, is_handler, is_method, run_of, setup_of, stmts_if, variables}
use Rattle.da_lang.specs.Deeds.{Deed, deeds}
use Rattle.da_lang.specs.Limits.{line_if, has_query, is_reached, class_items, class_blocks, items_over, blocks_over, variables_over, most_items, most_blocks, most_variables}
use Rattle.da_lang.specs.Resolution.{handler_binds, resolved_class}
use Rattle.da_limits.specs.declared.extent.Extent.{Extent}
use Rattle.da_limits.specs.Extents.{Called, beside, wider, as_block, body_extent_if, class_extent, class_extent_by, extent, handler_extent, method_extent, run_extent}
use Rattle.da_limits.specs.LimitLines.{told_at}
use Rattle.da_bodies.specs.Telling.{LimitRefusal as Refusal}
use Rattle.da_limits.specs.LimitWalk.{IsKnown, class_told, many_in, member_many, member_told, members_told}
use Rattle.da_calls.proofs.CallBounds.{in_cases, in_filter_map, in_none, false_true}
use Rattle.da_calls.proofs.CallNames.{name_same}
use Rattle.da_limits.proofs.ClassExtents.{class_fits}
use Rattle.da_limits.proofs.ClassMembersAt.{dropped, dropped_all}
use Rattle.da_limits.proofs.DeedLimits.{many-variables}
use Rattle.da_limits.proofs.ExtentsAgree.{blocks_agree}
use Rattle.da_limits.proofs.LimitLinesAt.{items-is, blocks-is, variables-is}
use Rattle.da_limits.proofs.LimitWalkAt.{over-capped}

-- a class in which the copies of all methods are alike
module _ (f g : Called) (same : (name : List ℕ) → f name ≡ g name) where
  blocks_alike : (ss : List Stmt) → as_block (map (extent f) ss) ≡ as_block (map (extent g) ss)
  blocks_alike ss = blocks_agree f g ss (λ name calls. same name)

  body_alike : (b : Option Body) → body_extent_if f b ≡ body_extent_if g b
  body_alike None = refl
  body_alike (Some b) = ap (wider (length b.params)) (blocks_alike b.stmts)

  handlers_alike : (bs : List Body) → map (handler_extent f) bs ≡ map (handler_extent g) bs
  handlers_alike [] = refl
  handlers_alike (b ∷ bs) = ap (λ e. e ∷ map (handler_extent f) bs) (ap (wider (length (handler_binds b.place))) (blocks_alike b.stmts)) ∙ ap (λ es. handler_extent g b ∷ es) (handlers_alike bs)

  pub class_alike : (c : ClassTree) → class_extent_by f c ≡ class_extent_by g c
  class_alike c =
      ap (λ e. wider (length (variables c)) (fold beside (beside e (run_extent f c)) (map (handler_extent f) (bodies_where is_handler c)))) (body_alike (setup_of c))
      ∙ ap (λ e. wider (length (variables c)) (fold beside (beside (body_extent_if g (setup_of c)) e) (map (handler_extent f) (bodies_where is_handler c)))) (blocks_alike (stmts_if (run_of c)))
      ∙ ap (λ es. wider (length (variables c)) (fold beside (beside (body_extent_if g (setup_of c)) (run_extent g c)) es)) (handlers_alike (bodies_where is_handler c))

-- queries with too many variables
abbrev asks_many : Deed → Bool
asks_many = has_query (λ s. nat_lt most_variables s.variables)

abbrev reached_in : ClassTree → List Body → List Deed
reached_in c bs = flat_map (λ b. deeds b.stmts) (filter (λ b. is_reached c b.place) bs)

many-in : (reached : Bool) (stmts : List Stmt) → many_in reached stmts ≡ (reached && list_any asks_many (deeds stmts))
unfolding many_in
many-in reached stmts = ap (λ b. reached && b) (many-variables stmts)

many_body : (c : ClassTree) (b : Body) (bs : List Body) (r : Bool) → is_reached c b.place ≡ r
    → list_any asks_many (flat_map (λ (x : Body). deeds x.stmts) (cond r (b ∷ filter (λ x. is_reached c x.place) bs) (filter (λ x. is_reached c x.place) bs))) ≡ (many_in r b.stmts || list_any asks_many (reached_in c bs))
many_body c b bs true is = list_any-append asks_many (deeds b.stmts) (reached_in c bs) ∙ ap (λ x. x || list_any asks_many (reached_in c bs)) (sym (many-in true b.stmts))
many_body c b bs false is = ap (λ x. x || list_any asks_many (reached_in c bs)) (sym (many-in false b.stmts))

pub many-members : (c : ClassTree) (ms : List Member) → list_any asks_many (reached_in c (filter_map body_in ms)) ≡ list_any (member_many c) ms
unfolding member_many
many-members c [] = refl
many-members c (member.Var name ty line ∷ ms) = many-members c ms
many-members c (member.Setup params stmts line ∷ ms) = many_body c (record { place = InSetup; params = params; stmts = stmts; line = line }) (filter_map body_in ms) true refl ∙ ap (λ x. many_in true stmts || x) (many-members c ms)
many-members c (member.Run stmts line ∷ ms) = many_body c (record { place = InRun; params = []; stmts = stmts; line = line }) (filter_map body_in ms) true refl ∙ ap (λ x. many_in true stmts || x) (many-members c ms)
many-members c (member.Method name params stmts line ∷ ms) = many_body c (record { place = InMethod name; params = params; stmts = stmts; line = line }) (filter_map body_in ms) (is_reached c (InMethod name)) refl ∙ ap (λ x. many_in (is_reached c (InMethod name)) stmts || x) (many-members c ms)
many-members c (member.Receive message from labels stmts line ∷ ms) = many_body c (record { place = InHandler message from labels; params = []; stmts = stmts; line = line }) (filter_map body_in ms) true refl ∙ ap (λ x. many_in true stmts || x) (many-members c ms)

-- the limits of a class
module _ (c : ClassTree) (called : Called) (x : Extent) (copies : (name : List ℕ) → called name ≡ method_extent (length c.members) c name) (is : x ≡ class_extent_by called c) where
  is_whole : x ≡ class_extent c
  is_whole = is ∙ class_alike called (method_extent (length c.members) c) copies c

  pub items-over : line_if (nat_lt most_items x.items) c.line ≡ items_over c
  items-over =
      let fit = class_fits c in
      ap (λ (b : Bool). line_if b c.line) (ap (nat_lt most_items) (ap (λ (e : Extent). e.items) is_whole ∙ fit.items_are) ∙ over-capped most_items 16384 (class_items (resolved_class c)) items-is (omega arith))

  pub blocks-over : line_if (nat_lt most_blocks x.blocks) c.line ≡ blocks_over c
  blocks-over =
      let fit = class_fits c in
      ap (λ (b : Bool). line_if b c.line) (ap (nat_lt most_blocks) (ap (λ (e : Extent). e.blocks) is_whole ∙ fit.blocks_are) ∙ over-capped most_blocks 64 (class_blocks (resolved_class c)) blocks-is (omega arith))

  slots_over : nat_lt most_variables x.slots ≡ nat_lt most_variables (length (resolved_class c).slots)
  slots_over =
      let fit = class_fits c in
      let grown : fit.grown ≡ length (resolved_class c).slots = omega (arith, fit.grows) in
      ap (nat_lt most_variables) (ap (λ (e : Extent). e.slots) is_whole ∙ fit.slots_are) ∙ over-capped most_variables 1024 fit.grown variables-is (omega arith) ∙ ap (nat_lt most_variables) grown

  pub variables-over : (many : Bool) → many ≡ list_any (member_many c) c.members → line_if (nat_lt most_variables x.slots || many) c.line ≡ variables_over c
  variables-over many found = ap (λ (b : Bool). line_if b c.line) (ap (λ b. b || many) slots_over ∙ ap (λ b. nat_lt most_variables (length (resolved_class c).slots) || b) (found ∙ sym (many-members c c.members)))

-- a method of a class has a name that is known
find_some : {A : Type 0} (p : A → Bool) (xs : List A) (x : A) → Contains xs x → p x ≡ true → IsSome (find p xs)
find_some p [] x has e = absurd (in_none x has)
find_some {A} p (y ∷ ys) x has e = go (p y) refl (λ h. find_some p ys x h e)
  where
    go : (b : Bool) → p y ≡ b → (Contains ys x → IsSome (find p ys)) → IsSome (cond b (Some y) (find p ys))
    go true is later = refl
    go false is later = ⊎_elim (λ same. absurd (false_true (sym is ∙ ap p same ∙ e))) later (in_cases y ys x has)

known_by : (c : ClassTree) (m : Member) → Contains c.members m → IsKnown c m
known_by c (member.Var name ty line) has = tt
known_by c (member.Setup params stmts line) has = tt
known_by c (member.Run stmts line) has = tt
known_by c (member.Method name params stmts line) has =
    let b : Body = record { place = InMethod name; params = params; stmts = stmts; line = line } in
    find_some (λ (x : Body). is_method name x.place) (bodies c) b (in_filter_map body_in c.members (member.Method name params stmts line) b has refl) (name_same name name refl)
known_by c (member.Receive message from labels stmts line) has = tt

pub known_at : (c : ClassTree) (ms : List Member) (i : ℕ) (m : Member) → ms ≡ c.members → i < length ms → m ≡ get_or ms i m → IsKnown c m
known_at c ms i m same inside here = known_by c m (subst (λ xs. Contains xs m) same (i, inside, sym here))

-- the members one by one
told_passes : (c : ClassTree) (m : Member) (ms : List Member) (found : Option Refusal) → members_told c (m ∷ ms) found ≡ members_told c ms (member_told c m found)
unfolding members_told
told_passes c m ms found = refl

told_none : (c : ClassTree) (found : Option Refusal) → members_told c [] found ≡ found
unfolding members_told
told_none c found = refl

pub members_step : (c : ClassTree) (ms : List Member) (i : ℕ) (m : Member) (found more whole : Option Refusal) → i < length ms → m ≡ get_or ms i m → members_told c (drop i ms) found ≡ whole → more ≡ member_told c m found → members_told c (drop (i + 1) ms) more ≡ whole
members_step c ms i m found more whole inside here so_far grown =
    ap (members_told c (drop (i + 1) ms)) grown ∙ sym (told_passes c m (drop (i + 1) ms) found) ∙ ap (λ xs. members_told c xs found) (sym (dropped ms i m inside here)) ∙ so_far

pub members_end : (c : ClassTree) (ms : List Member) (i : ℕ) (found whole : Option Refusal) → length ms ≤ i → members_told c (drop i ms) found ≡ whole → found ≡ whole
members_end c ms i found whole end so_far = sym (told_none c found) ∙ ap (λ xs. members_told c xs found) (sym (dropped_all ms i end)) ∙ so_far

or_assoc : (a b c : Bool) → ((a || b) || c) ≡ (a || (b || c))
or_assoc true b c = refl
or_assoc false b c = refl

or_false : (a : Bool) → (a || false) ≡ a
or_false true = refl
or_false false = refl

pub many_step : {A : Type 0} (p : A → Bool) (xs : List A) (i : ℕ) (x : A) (many here more whole : Bool) → i < length xs → x ≡ get_or xs i x → (many || list_any p (drop i xs)) ≡ whole → here ≡ p x → more ≡ (many || here) → (more || list_any p (drop (i + 1) xs)) ≡ whole
many_step p xs i x many here more whole inside at one this grown =
    ap (λ b. b || list_any p (drop (i + 1) xs)) (grown ∙ ap (λ b. many || b) this) ∙ or_assoc many (p x) (list_any p (drop (i + 1) xs)) ∙ ap (λ ys. many || list_any p ys) (sym (dropped xs i x inside at)) ∙ one

pub many_end : {A : Type 0} (p : A → Bool) (xs : List A) (i : ℕ) (many whole : Bool) → length xs ≤ i → (many || list_any p (drop i xs)) ≡ whole → many ≡ whole
many_end p xs i many whole end so_far = sym (or_false many) ∙ ap (λ ys. many || list_any p ys) (sym (dropped_all xs i end)) ∙ so_far

pub class_told-is : (c : ClassTree) (found : Option Refusal) → class_told c found ≡ told_at limit.Variables (told_at limit.Blocks (told_at limit.Items (members_told c c.members found) (items_over c)) (blocks_over c)) (variables_over c)
unfolding class_told
class_told-is c found = refl

pub class_made : (c k : ClassTree) (called : Called) (x : Extent) (many : Bool) (old mid new : Option Refusal) → k ≡ c → ((name : List ℕ) → called name ≡ method_extent (length k.members) k name) → x ≡ class_extent_by called c
    → many ≡ list_any (member_many k) k.members → mid ≡ members_told k k.members old
    → new ≡ told_at limit.Variables (told_at limit.Blocks (told_at limit.Items mid (line_if (nat_lt most_items x.items) c.line)) (line_if (nat_lt most_blocks x.blocks) c.line)) (line_if (nat_lt most_variables x.slots || many) c.line)
    → new ≡ class_told c old
class_made c k called x many old mid new same copies is found told made =
    let copied : (name : List ℕ) → called name ≡ method_extent (length c.members) c name = λ name. copies name ∙ ap (λ (d : ClassTree). method_extent (length d.members) d name) same in
    let asked : many ≡ list_any (member_many c) c.members = found ∙ ap (λ (d : ClassTree). list_any (member_many d) d.members) same in
    let walked : mid ≡ members_told c c.members old = told ∙ ap (λ (d : ClassTree). members_told d d.members old) same in
    made
    ∙ ap (λ f. told_at limit.Variables (told_at limit.Blocks (told_at limit.Items f (line_if (nat_lt most_items x.items) c.line)) (line_if (nat_lt most_blocks x.blocks) c.line)) (line_if (nat_lt most_variables x.slots || many) c.line)) walked
    ∙ ap (λ ls. told_at limit.Variables (told_at limit.Blocks (told_at limit.Items (members_told c c.members old) ls) (line_if (nat_lt most_blocks x.blocks) c.line)) (line_if (nat_lt most_variables x.slots || many) c.line)) (items-over c called x copied is)
    ∙ ap (λ ls. told_at limit.Variables (told_at limit.Blocks (told_at limit.Items (members_told c c.members old) (items_over c)) ls) (line_if (nat_lt most_variables x.slots || many) c.line)) (blocks-over c called x copied is)
    ∙ ap (λ ls. told_at limit.Variables (told_at limit.Blocks (told_at limit.Items (members_told c c.members old) (items_over c)) (blocks_over c)) ls) (variables-over c called x copied is many asked)
    ∙ sym (class_told-is c old)
