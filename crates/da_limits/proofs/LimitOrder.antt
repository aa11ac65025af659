-- The refusals by limits are reported alike in the order of the definition and in the order in which they are looked for.
use Rattle.std.specs.Prelude.{◌≡◌, refl, ℕ, ◌+◌, ◌<◌, ◌≤◌, length, nat_lt, ◌||◌, Bool, true, false, if◌then◌else◌, List, [], ◌∷◌, ◌++◌, map, drop, flat_map, filter, filter_map, Option, option_to_list, Some, None}
use Rattle.std.specs.List.{cons_option}
use Rattle.std.proofs.Common.{◌∙◌, ap, sym, cond, get_or, append_assoc, append-nil}
use Rattle.std.proofs.lemmas.List.{map-append}
use Rattle.da_lang.specs.declared.refusal.LimitKind.{LimitKind}
use Rattle.da_lang.specs.declared.refusal.LimitKind.TheVariants as limit
use Rattle.da_lang.specs.declared.tree.ClassTree.{ClassTree}
use Rattle.da_lang.specs.declared.tree.MainLine.{MainLine}
use Rattle.da_lang.specs.declared.tree.Member.{Member}
use Rattle.da_lang.specs.declared.tree.Member.TheVariants as member
use Rattle.da_lang.specs.declared.tree.MessageDecl.{MessageDecl}
use Rattle.da_lang.specs.declared.tree.Stmt.{Stmt}
use Rattle.da_lang.specs.declared.tree.Tree.{Tree}
use Rattle.da_lang.specs.ClassParts.{Body, Variable, InSetup, InRun, InMethod, InHandler, bodies, body_in, variable_in, variables}
use Rattle.da_lang.specs.Deeds.{Deed, deeds}
use Rattle.da_lang.specs.Limits.{line_if, has_query, is_reached, most_classes, wide_exprs, most_generators, classes_over, processes_over, items_over, blocks_over, variables_over, generators_over, wide_header, parts_in_body, parts_in_class, parts_in_main, parts_in_message, parts_in_variable, parts_over, limit_refusals, rank}
use Rattle.da_lang.specs.Scopes.{Refused, at_lines, told}
use Rattle.da_limits.specs.LimitLines.{told_at, wide_lines, gen_lines}
use Rattle.da_bodies.specs.Telling.{LimitRefusal as Refusal, telling_limits as telling}
use Rattle.da_limits.specs.LimitTree.{classes_told, main_lines, message_lines}
use Rattle.da_limits.specs.LimitWalk.{class_told, member_told, members_told, stmts_told, wide_params, wide_patterns}
use Rattle.da_limits.specs.Sizes.{sizes}
use Rattle.da_limits.proofs.ClassMembersAt.{dropped, dropped_all}
use Rattle.da_limits.proofs.DeedLimits.{lines-wide, lines-gens}
use Rattle.da_limits.proofs.Alike.{Alike, alike-refl, alike-trans, alike-sym, alike-is, alike-both, alike-flat, telling-nil, telling-append}
use Rattle.da_bodies.proofs.KindOrders.{limit_order}
use Rattle.da_bodies.proofs.TellingLaws.{telling-swap, told-telling}

-- refusals of one kind
abbrev At : LimitKind → List ℕ → List Refusal
At = at_lines

at-append : (kind : LimitKind) (xs ys : List ℕ) → At kind (xs ++ ys) ≡ At kind xs ++ At kind ys
at-append kind xs ys = map-append (λ line. let r : Refused LimitKind = record { kind = kind; line = line } in r) xs ys

at-flat : {A : Type 0} (kind : LimitKind) (f : A → List ℕ) (xs : List A) → At kind (flat_map f xs) ≡ flat_map (λ x. At kind (f x)) xs
at-flat kind f [] = refl
at-flat kind f (x ∷ xs) = at-append kind (f x) (flat_map f xs) ∙ ap (λ rs. At kind (f x) ++ rs) (at-flat kind f xs)

told_at-is : (kind : LimitKind) (found : Option Refusal) (lines : List ℕ) → told_at kind found lines ≡ telling found (At kind lines)
unfolding told_at
told_at-is kind found lines = refl

-- the lines with queries of too many generators in a body
abbrev gens_at : Bool → List Stmt → List ℕ
gens_at reached stmts = if reached then map (λ d. d.line) (filter (has_query (λ s. nat_lt most_generators s.gens)) (deeds stmts)) else []

abbrev wide_at : List Stmt → List ℕ
wide_at stmts = map (λ d. d.line) (filter (λ d. wide_exprs d.says) (deeds stmts))

-- the refusals in a member, and in a body
abbrev of_body : ClassTree → Body → List Refusal
of_body c b = At limit.Parts (parts_in_body b) ++ At limit.Generators (gens_at (is_reached c b.place) b.stmts)

abbrev of_member : ClassTree → Member → List Refusal
of_member c m = flat_map (λ v. At limit.Parts (parts_in_variable v)) (option_to_list (variable_in m)) ++ flat_map (of_body c) (option_to_list (body_in m))

told_two : (kind : LimitKind) (found : Option Refusal) (xs ys : List ℕ) → told_at kind (told_at kind found xs) ys ≡ telling found (At kind (xs ++ ys))
told_two kind found xs ys =
    told_at-is kind (told_at kind found xs) ys ∙ ap (λ f. telling f (At kind ys)) (told_at-is kind found xs) ∙ sym (telling-append found (At kind xs) (At kind ys)) ∙ ap (telling found) (sym (at-append kind xs ys))

gens_by : (reached : Bool) (stmts : List Stmt) → (if reached then gen_lines (sizes stmts) else []) ≡ gens_at reached stmts
gens_by true stmts = lines-gens stmts
gens_by false stmts = refl

-- a body with its header
body_told : (c : ClassTree) (b : Body) (reached wide : Bool) (found : Option Refusal) → reached ≡ is_reached c b.place → wide ≡ wide_header b
    → stmts_told reached b.stmts (told_at limit.Parts found (line_if wide b.line)) ≡ telling found (of_body c b)
unfolding stmts_told
body_told c b reached wide found is header =
    let parts : told_at limit.Parts (told_at limit.Parts found (line_if wide b.line)) (wide_lines (sizes b.stmts)) ≡ telling found (At limit.Parts (parts_in_body b)) =
    told_two limit.Parts found (line_if wide b.line) (wide_lines (sizes b.stmts)) ∙ ap (λ w. telling found (At limit.Parts (line_if w b.line ++ wide_lines (sizes b.stmts)))) header ∙ ap (λ ls. telling found (At limit.Parts (line_if (wide_header b) b.line ++ ls))) (lines-wide b.stmts) in
    told_at-is limit.Generators (told_at limit.Parts (told_at limit.Parts found (line_if wide b.line)) (wide_lines (sizes b.stmts))) (if reached then gen_lines (sizes b.stmts) else [])
    ∙ ap (λ ls. telling (told_at limit.Parts (told_at limit.Parts found (line_if wide b.line)) (wide_lines (sizes b.stmts))) (At limit.Generators ls)) (gens_by reached b.stmts ∙ ap (λ r. gens_at r b.stmts) is)
    ∙ ap (λ f. telling f (At limit.Generators (gens_at (is_reached c b.place) b.stmts))) parts
    ∙ sym (telling-append found (At limit.Parts (parts_in_body b)) (At limit.Generators (gens_at (is_reached c b.place) b.stmts)))

or_false : (b : Bool) → b ≡ (b || false)
or_false true = refl
or_false false = refl

lone : (c : ClassTree) (b : Body) → of_body c b ≡ [] ++ (of_body c b ++ [])
lone c b = sym (append-nil (of_body c b))

member-told : (c : ClassTree) (m : Member) (found : Option Refusal) → member_told c m found ≡ telling found (of_member c m)
unfolding member_told
member-told c (member.Var name ty line) found =
    let v : Variable = record { name = name; ty = ty; line = line } in
    told_at-is limit.Parts found (parts_in_variable v) ∙ ap (telling found) (sym (append-nil (At limit.Parts (parts_in_variable v))) ∙ sym (append-nil (At limit.Parts (parts_in_variable v) ++ [])))
member-told c (member.Setup params stmts line) found =
    let b : Body = record { place = InSetup; params = params; stmts = stmts; line = line } in
    body_told c b true (wide_params params) found refl (or_false (wide_params params)) ∙ ap (telling found) (lone c b)
member-told c (member.Run stmts line) found =
    let b : Body = record { place = InRun; params = []; stmts = stmts; line = line } in
    ap (stmts_told true stmts) (sym (told_at-is limit.Parts found [] ∙ telling-nil found)) ∙ body_told c b true false found refl refl ∙ ap (telling found) (lone c b)
member-told c (member.Method name params stmts line) found =
    let b : Body = record { place = InMethod name; params = params; stmts = stmts; line = line } in
    body_told c b (is_reached c (InMethod name)) (wide_params params) found refl (or_false (wide_params params)) ∙ ap (telling found) (lone c b)
member-told c (member.Receive message from labels stmts line) found =
    let b : Body = record { place = InHandler message from labels; params = []; stmts = stmts; line = line } in
    body_told c b true (wide_patterns message from) found refl refl ∙ ap (telling found) (lone c b)

members-told : (c : ClassTree) (ms : List Member) (found : Option Refusal) → members_told c ms found ≡ telling found (flat_map (of_member c) ms)
unfolding members_told
members-told c [] found = sym (telling-nil found)
members-told c (m ∷ ms) found =
    members-told c ms (member_told c m found) ∙ ap (λ f. telling f (flat_map (of_member c) ms)) (member-told c m found) ∙ sym (telling-append found (of_member c m) (flat_map (of_member c) ms))

-- the refusals in a class
abbrev of_class : ClassTree → List Refusal
of_class c = flat_map (of_member c) c.members ++ At limit.Items (items_over c) ++ At limit.Blocks (blocks_over c) ++ At limit.Variables (variables_over c)

class-told : (c : ClassTree) (found : Option Refusal) → class_told c found ≡ telling found (of_class c)
unfolding class_told
class-told c found =
    let ms = flat_map (of_member c) c.members in
    let is = At limit.Items (items_over c) in
    let bs = At limit.Blocks (blocks_over c) in
    let vs = At limit.Variables (variables_over c) in
    told_at-is limit.Variables (told_at limit.Blocks (told_at limit.Items (members_told c c.members found) (items_over c)) (blocks_over c)) (variables_over c)
    ∙ ap (λ f. telling f vs) (told_at-is limit.Blocks (told_at limit.Items (members_told c c.members found) (items_over c)) (blocks_over c))
    ∙ ap (λ f. telling (telling f bs) vs) (told_at-is limit.Items (members_told c c.members found) (items_over c))
    ∙ ap (λ f. telling (telling (telling f is) bs) vs) (members-told c c.members found)
    ∙ ap (λ f. telling (telling f bs) vs) (sym (telling-append found ms is))
    ∙ ap (λ f. telling f vs) (sym (telling-append found (ms ++ is) bs))
    ∙ sym (telling-append found (ms ++ is ++ bs) vs)

classes-told : (cs : List ClassTree) (found : Option Refusal) → classes_told cs found ≡ telling found (flat_map of_class cs)
unfolding classes_told
classes-told [] found = sym (telling-nil found)
classes-told (c ∷ cs) found = classes-told cs (class_told c found) ∙ ap (λ f. telling f (flat_map of_class cs)) (class-told c found) ∙ sym (telling-append found (of_class c) (flat_map of_class cs))

-- what is found alike for each is found alike for all
alike-each : {A : Type 0} (f g : A → List Refusal) → ((x : A) → Alike (f x) (g x)) → (xs : List A) → Alike (flat_map f xs) (flat_map g xs)
alike-each f g same [] = alike-refl []
alike-each f g same (x ∷ xs) = alike-both (f x) (g x) (flat_map f xs) (flat_map g xs) (same x) (alike-each f g same xs)

-- the members that are of a kind
filter_by : {B C : Type 0} (f : B → List C) (o : Option B) (bs : List B) (rest : List C) → rest ≡ flat_map f bs → flat_map f (option_to_list o) ++ rest ≡ flat_map f (cons_option o bs)
filter_by f None bs rest same = same
filter_by f (Some x) bs rest same = ap (λ cs. cs ++ rest) (append-nil (f x)) ∙ ap (λ cs. f x ++ cs) same

flat-filter : {A B C : Type 0} (f : B → List C) (g : A → Option B) (xs : List A) → flat_map (λ x. flat_map f (option_to_list (g x))) xs ≡ flat_map f (filter_map g xs)
flat-filter f g [] = refl
flat-filter f g (x ∷ xs) = filter_by f (g x) (filter_map g xs) (flat_map (λ y. flat_map f (option_to_list (g y))) xs) (flat-filter f g xs)

-- the generators of the bodies that are reached
abbrev test : Deed → Bool
test = has_query (λ s. nat_lt most_generators s.gens)

filter-append : (xs ys : List Deed) → map (λ (d : Deed). d.line) (filter test (xs ++ ys)) ≡ map (λ (d : Deed). d.line) (filter test xs) ++ map (λ (d : Deed). d.line) (filter test ys)
filter-append [] ys = refl
filter-append (x ∷ xs) ys = go (test x) (filter-append xs ys)
  where
    go : (b : Bool) → map (λ (d : Deed). d.line) (filter test (xs ++ ys)) ≡ map (λ (d : Deed). d.line) (filter test xs) ++ map (λ (d : Deed). d.line) (filter test ys)
        → map (λ (d : Deed). d.line) (cond b (x ∷ filter test (xs ++ ys)) (filter test (xs ++ ys))) ≡ map (λ (d : Deed). d.line) (cond b (x ∷ filter test xs) (filter test xs)) ++ map (λ (d : Deed). d.line) (filter test ys)
    go true rest = ap (λ ls. x.line ∷ ls) rest
    go false rest = rest

gens_of : (c : ClassTree) (b : Body) (bs : List Body) (r : Bool) (rest : List ℕ) → map (λ (d : Deed). d.line) (filter test (flat_map (λ (x : Body). deeds x.stmts) (filter (λ x. is_reached c x.place) bs))) ≡ rest
    → map (λ (d : Deed). d.line) (filter test (flat_map (λ (x : Body). deeds x.stmts) (cond r (b ∷ filter (λ x. is_reached c x.place) bs) (filter (λ x. is_reached c x.place) bs)))) ≡ gens_at r b.stmts ++ rest
gens_of c b bs true rest same = filter-append (deeds b.stmts) (flat_map (λ (x : Body). deeds x.stmts) (filter (λ x. is_reached c x.place) bs)) ∙ ap (λ ls. gens_at true b.stmts ++ ls) same
gens_of c b bs false rest same = same

gens-reached : (c : ClassTree) (bs : List Body) → map (λ (d : Deed). d.line) (filter test (flat_map (λ (x : Body). deeds x.stmts) (filter (λ x. is_reached c x.place) bs))) ≡ flat_map (λ (b : Body). gens_at (is_reached c b.place) b.stmts) bs
gens-reached c [] = refl
gens-reached c (b ∷ bs) = gens_of c b bs (is_reached c b.place) (flat_map (λ (x : Body). gens_at (is_reached c x.place) x.stmts) bs) (gens-reached c bs)

-- a class by its kinds of refusals
members-alike : (c : ClassTree) → Alike (flat_map (of_member c) c.members) (At limit.Parts (parts_in_class c) ++ At limit.Generators (generators_over c))
members-alike c =
    let vars = flat_map (λ v. At limit.Parts (parts_in_variable v)) (variables c) in
    let parts = flat_map (λ b. At limit.Parts (parts_in_body b)) (bodies c) in
    let gens = flat_map (λ b. At limit.Generators (gens_at (is_reached c b.place) b.stmts)) (bodies c) in
    let split = alike-sym (alike-flat (λ m. flat_map (λ v. At limit.Parts (parts_in_variable v)) (option_to_list (variable_in m))) (λ m. flat_map (of_body c) (option_to_list (body_in m))) c.members) in
    let first = flat-filter (λ v. At limit.Parts (parts_in_variable v)) variable_in c.members in
    let second = flat-filter (of_body c) body_in c.members in
    let inner = alike-sym (alike-flat (λ b. At limit.Parts (parts_in_body b)) (λ b. At limit.Generators (gens_at (is_reached c b.place) b.stmts)) (bodies c)) in
    let all_parts : vars ++ parts ≡ At limit.Parts (parts_in_class c) =
    ap (λ rs. rs ++ parts) (sym (at-flat limit.Parts parts_in_variable (variables c))) ∙ ap (λ rs. At limit.Parts (flat_map parts_in_variable (variables c)) ++ rs) (sym (at-flat limit.Parts parts_in_body (bodies c)))
    ∙ sym (at-append limit.Parts (flat_map parts_in_variable (variables c)) (flat_map parts_in_body (bodies c))) in
    let all_gens : gens ≡ At limit.Generators (generators_over c) = sym (ap (At limit.Generators) (gens-reached c (bodies c)) ∙ at-flat limit.Generators (λ b. gens_at (is_reached c b.place) b.stmts) (bodies c)) in
    alike-trans split
    (alike-trans (alike-both _ vars _ (parts ++ gens) (alike-is first) (alike-trans (alike-is second) inner))
    (alike-is (sym (append_assoc vars parts gens) ∙ ap (λ rs. rs ++ gens) all_parts ∙ ap (λ rs. At limit.Parts (parts_in_class c) ++ rs) all_gens)))

-- one list of refusals after another, as it is reported
abbrev T : Option Refusal → List Refusal → Option Refusal
T = telling

-- the refusals in all classes by their kinds
classes-alike : (cs : List ClassTree) → Alike (flat_map of_class cs)
    (At limit.Parts (flat_map parts_in_class cs) ++ At limit.Generators (flat_map generators_over cs) ++ At limit.Items (flat_map items_over cs) ++ At limit.Blocks (flat_map blocks_over cs) ++ At limit.Variables (flat_map variables_over cs))
classes-alike cs =
    let ms = λ (c : ClassTree). flat_map (of_member c) c.members in
    let is = λ (c : ClassTree). At limit.Items (items_over c) in
    let bs = λ (c : ClassTree). At limit.Blocks (blocks_over c) in
    let vs = λ (c : ClassTree). At limit.Variables (variables_over c) in
    let ps = λ (c : ClassTree). At limit.Parts (parts_in_class c) in
    let gs = λ (c : ClassTree). At limit.Generators (generators_over c) in
    let last = alike-sym (alike-flat (λ c. ms c ++ is c ++ bs c) vs cs) in
    let third = alike-sym (alike-flat (λ c. ms c ++ is c) bs cs) in
    let second = alike-sym (alike-flat ms is cs) in
    let first = alike-trans (alike-each ms (λ c. ps c ++ gs c) members-alike cs) (alike-sym (alike-flat ps gs cs)) in
    let kinds : flat_map ps cs ++ flat_map gs cs ++ flat_map is cs ++ flat_map bs cs ++ flat_map vs cs
    ≡ At limit.Parts (flat_map parts_in_class cs) ++ At limit.Generators (flat_map generators_over cs) ++ At limit.Items (flat_map items_over cs) ++ At limit.Blocks (flat_map blocks_over cs) ++ At limit.Variables (flat_map variables_over cs) =
    ap (λ rs. rs ++ flat_map gs cs ++ flat_map is cs ++ flat_map bs cs ++ flat_map vs cs) (sym (at-flat limit.Parts parts_in_class cs))
    ∙ ap (λ rs. At limit.Parts (flat_map parts_in_class cs) ++ rs ++ flat_map is cs ++ flat_map bs cs ++ flat_map vs cs) (sym (at-flat limit.Generators generators_over cs))
    ∙ ap (λ rs. At limit.Parts (flat_map parts_in_class cs) ++ At limit.Generators (flat_map generators_over cs) ++ rs ++ flat_map bs cs ++ flat_map vs cs) (sym (at-flat limit.Items items_over cs))
    ∙ ap (λ rs. At limit.Parts (flat_map parts_in_class cs) ++ At limit.Generators (flat_map generators_over cs) ++ At limit.Items (flat_map items_over cs) ++ rs ++ flat_map vs cs) (sym (at-flat limit.Blocks blocks_over cs))
    ∙ ap (λ rs. At limit.Parts (flat_map parts_in_class cs) ++ At limit.Generators (flat_map generators_over cs) ++ At limit.Items (flat_map items_over cs) ++ At limit.Blocks (flat_map blocks_over cs) ++ rs) (sym (at-flat limit.Variables variables_over cs)) in
    alike-trans last
    (alike-trans (alike-both _ _ (flat_map vs cs) _ (alike-trans third (alike-both _ _ (flat_map bs cs) _ (alike-trans second (alike-both _ _ (flat_map is cs) _ first (alike-refl (flat_map is cs)))) (alike-refl (flat_map bs cs)))) (alike-refl (flat_map vs cs)))
    (alike-is kinds))

-- the two orders, from where classes and processes were counted
orders : (s : Option Refusal) (i b v m k x g : List Refusal) → T (T (T (T (T s i) b) v) (m ++ k ++ x)) g ≡ T (T (T s m) x) (k ++ g ++ i ++ b ++ v)
orders s i b v m k x g =
    let q = i ++ b ++ v in
    let front : T (T (T s i) b) v ≡ T s q = sym (telling-append s (i ++ b) v ∙ ap (λ f. T f v) (telling-append s i b)) in
    let back : T (T (T (T (T s m) x) k) g) q ≡ T (T (T s m) x) (k ++ g ++ i ++ b ++ v) =
    let from = T (T s m) x in
    ap (λ f. T f q) (sym (telling-append from k g)) ∙ sym (telling-append from (k ++ g) q) ∙ ap (T from) (sym (append_assoc (k ++ g) (i ++ b) v) ∙ ap (λ rs. rs ++ v) (sym (append_assoc (k ++ g) i b))) in
    ap (λ f. T (T f (m ++ k ++ x)) g) front
    ∙ ap (λ f. T f g) (telling-swap limit_order s q (m ++ k ++ x))
    ∙ telling-swap limit_order (T s (m ++ k ++ x)) q g
    ∙ ap (λ f. T (T f g) q) (telling-append s (m ++ k) x ∙ ap (λ f. T f x) (telling-append s m k) ∙ telling-swap limit_order (T s m) k x)
    ∙ back

-- what is reported of a tree
pub tree_told : (t : Tree) → told rank (limit_refusals t)
    ≡ classes_told t.classes (told_at limit.Parts (told_at limit.Parts (told_at limit.Processes (told_at limit.Classes None (classes_over t)) (processes_over 0 t.main)) (message_lines t.messages)) (main_lines t.main))
unfolding limit_refusals message_lines main_lines
tree_told t =
    let c = At limit.Classes (classes_over t) in
    let p = At limit.Processes (processes_over 0 t.main) in
    let i = At limit.Items (flat_map items_over t.classes) in
    let b = At limit.Blocks (flat_map blocks_over t.classes) in
    let v = At limit.Variables (flat_map variables_over t.classes) in
    let m = At limit.Parts (flat_map parts_in_message t.messages) in
    let k = At limit.Parts (flat_map parts_in_class t.classes) in
    let x = At limit.Parts (flat_map parts_in_main t.main) in
    let g = At limit.Generators (flat_map generators_over t.classes) in
    let s = T (T None c) p in
    let parts : At limit.Parts (parts_over t) ≡ m ++ k ++ x =
    at-append limit.Parts (flat_map parts_in_message t.messages ++ flat_map parts_in_class t.classes) (flat_map parts_in_main t.main) ∙ ap (λ rs. rs ++ x) (at-append limit.Parts (flat_map parts_in_message t.messages) (flat_map parts_in_class t.classes)) in
    let defined : T None (c ++ p ++ i ++ b ++ v ++ At limit.Parts (parts_over t) ++ g) ≡ T (T (T (T (T s i) b) v) (m ++ k ++ x)) g =
    telling-append None (c ++ p ++ i ++ b ++ v ++ At limit.Parts (parts_over t)) g
    ∙ ap (λ f. T f g) (telling-append None (c ++ p ++ i ++ b ++ v) (At limit.Parts (parts_over t)) ∙ ap (T (T None (c ++ p ++ i ++ b ++ v))) parts
    ∙ ap (λ f. T f (m ++ k ++ x)) (telling-append None (c ++ p ++ i ++ b) v ∙ ap (λ f. T f v) (telling-append None (c ++ p ++ i) b ∙ ap (λ f. T f b) (telling-append None (c ++ p) i ∙ ap (λ f. T f i) (telling-append None c p))))) in
    let outside : told_at limit.Parts (told_at limit.Parts (told_at limit.Processes (told_at limit.Classes None (classes_over t)) (processes_over 0 t.main)) (flat_map parts_in_message t.messages)) (flat_map parts_in_main t.main) ≡ T (T s m) x =
    told_at-is limit.Parts (told_at limit.Parts (told_at limit.Processes (told_at limit.Classes None (classes_over t)) (processes_over 0 t.main)) (flat_map parts_in_message t.messages)) (flat_map parts_in_main t.main)
    ∙ ap (λ f. T f x) (told_at-is limit.Parts (told_at limit.Processes (told_at limit.Classes None (classes_over t)) (processes_over 0 t.main)) (flat_map parts_in_message t.messages)
    ∙ ap (λ f. T f m) (told_at-is limit.Processes (told_at limit.Classes None (classes_over t)) (processes_over 0 t.main) ∙ ap (λ f. T f p) (told_at-is limit.Classes None (classes_over t)))) in
    let kinds = classes-alike t.classes in
    told-telling limit_order (c ++ p ++ i ++ b ++ v ++ At limit.Parts (parts_over t) ++ g) ∙ defined ∙ orders s i b v m k x g
    ∙ sym (kinds.tells (T (T s m) x)) ∙ sym (classes-told t.classes (T (T s m) x)) ∙ ap (classes_told t.classes) (sym outside)

-- each class one after the other
pub classes_step : (cs : List ClassTree) (i : ℕ) (c : ClassTree) (found more whole : Option Refusal) → i < length cs → c ≡ get_or cs i c → classes_told (drop i cs) found ≡ whole → more ≡ class_told c found → classes_told (drop (i + 1) cs) more ≡ whole
unfolding classes_told
classes_step cs i c found more whole inside here so_far grown = ap (classes_told (drop (i + 1) cs)) grown ∙ ap (λ xs. classes_told xs found) (sym (dropped cs i c inside here)) ∙ so_far

pub classes_end : (cs : List ClassTree) (i : ℕ) (found whole : Option Refusal) → length cs ≤ i → classes_told (drop i cs) found ≡ whole → found ≡ whole
unfolding classes_told
classes_end cs i found whole end so_far = ap (λ xs. classes_told xs found) (sym (dropped_all cs i end)) ∙ so_far

-- one step after the other, by what each is handed
pub all_told : (t : Tree) (classes : List ClassTree) (main : List MainLine) (messages : List MessageDecl) (begun counted made sent set walked : Option Refusal)
    → classes ≡ t.classes → main ≡ t.main → messages ≡ t.messages → begun ≡ None
    → counted ≡ told_at limit.Classes begun (map (λ (c : ClassTree). c.line) (drop most_classes classes)) → made ≡ told_at limit.Processes counted (processes_over 0 main)
    → sent ≡ told_at limit.Parts made (message_lines messages) → set ≡ told_at limit.Parts sent (main_lines main) → walked ≡ classes_told classes set
    → walked ≡ told rank (limit_refusals t)
all_told t classes main messages begun counted made sent set walked cs ls ms start one two three four five =
    let first : counted ≡ told_at limit.Classes None (classes_over t) = one ∙ ap (λ f. told_at limit.Classes f (map (λ (c : ClassTree). c.line) (drop most_classes classes))) start ∙ ap (λ xs. told_at limit.Classes None (map (λ (c : ClassTree). c.line) (drop most_classes xs))) cs in
    let second : made ≡ told_at limit.Processes (told_at limit.Classes None (classes_over t)) (processes_over 0 t.main) = two ∙ ap (λ f. told_at limit.Processes f (processes_over 0 main)) first ∙ ap (λ xs. told_at limit.Processes (told_at limit.Classes None (classes_over t)) (processes_over 0 xs)) ls in
    let outside : Option Refusal = told_at limit.Processes (told_at limit.Classes None (classes_over t)) (processes_over 0 t.main) in
    let third : sent ≡ told_at limit.Parts outside (message_lines t.messages) = three ∙ ap (λ f. told_at limit.Parts f (message_lines messages)) second ∙ ap (λ xs. told_at limit.Parts outside (message_lines xs)) ms in
    let fourth : set ≡ told_at limit.Parts (told_at limit.Parts outside (message_lines t.messages)) (main_lines t.main) = four ∙ ap (λ f. told_at limit.Parts f (main_lines main)) third ∙ ap (λ xs. told_at limit.Parts (told_at limit.Parts outside (message_lines t.messages)) (main_lines xs)) ls in
    five ∙ ap (classes_told classes) fourth ∙ ap (λ xs. classes_told xs (told_at limit.Parts (told_at limit.Parts outside (message_lines t.messages)) (main_lines t.main))) cs ∙ sym (tree_told t)
