-- The parts of the members of a class, by the first member.
use Rattle.std.specs.Prelude.{◌≡◌, refl, ℕ, zero, suc, ◌+◌, ◌<◌, ◌≤◌, Bool, true, false, List, [], ◌∷◌, length, filter_map, count_by, Option, Some, None}
use Rattle.std.proofs.Common.{◌∙◌, ap, sym, arith, cond, drop, get_or}
use Rattle.std.proofs.lemmas.List.Sums.{sum_by-cons}
use Rattle.da_lang.specs.declared.tree.Member.{Member}
use Rattle.da_lang.specs.declared.tree.Member.TheVariants as member
use Rattle.da_lang.specs.declared.tree.Param.{Param}
use Rattle.da_lang.specs.declared.tree.PatternTree.{PatternTree}
use Rattle.da_lang.specs.declared.tree.Stmt.{Stmt}
use Rattle.da_lang.specs.declared.ty.Ty.{Ty}
use Rattle.da_lang.specs.ClassParts.{InSetup, InRun, InHandler, variable_in}
use Rattle.da_limits.specs.Capped.{capped}
use Rattle.da_limits.specs.ClassMembers.{setup_in, run_in, is_variable, with_handlers}
use Rattle.da_limits.specs.declared.extent.Extent.{Extent}
use Rattle.da_limits.specs.Extents.{Called, beside, handler_extent}

pub setup-none : setup_in [] ≡ None
unfolding setup_in
setup-none = refl

pub setup-Var : (name : List ℕ) (ty : Ty) (line : ℕ) (ms : List Member) → setup_in (member.Var name ty line ∷ ms) ≡ setup_in ms
unfolding setup_in
setup-Var name ty line ms = refl

pub setup-Setup : (params : List Param) (stmts : List Stmt) (line : ℕ) (ms : List Member) → setup_in (member.Setup params stmts line ∷ ms) ≡ Some (record { place = InSetup; params = params; stmts = stmts; line = line })
unfolding setup_in
setup-Setup params stmts line ms = refl

pub setup-Run : (stmts : List Stmt) (line : ℕ) (ms : List Member) → setup_in (member.Run stmts line ∷ ms) ≡ setup_in ms
unfolding setup_in
setup-Run stmts line ms = refl

pub setup-Method : (name : List ℕ) (params : List Param) (stmts : List Stmt) (line : ℕ) (ms : List Member) → setup_in (member.Method name params stmts line ∷ ms) ≡ setup_in ms
unfolding setup_in
setup-Method name params stmts line ms = refl

pub setup-Receive : (message : PatternTree) (from : Option PatternTree) (labels : List (List ℕ)) (stmts : List Stmt) (line : ℕ) (ms : List Member) → setup_in (member.Receive message from labels stmts line ∷ ms) ≡ setup_in ms
unfolding setup_in
setup-Receive message from labels stmts line ms = refl

pub ruleset setup_rules = (setup-none, setup-Var, setup-Setup, setup-Run, setup-Method, setup-Receive)

pub run-none : run_in [] ≡ None
unfolding run_in
run-none = refl

pub run-Var : (name : List ℕ) (ty : Ty) (line : ℕ) (ms : List Member) → run_in (member.Var name ty line ∷ ms) ≡ run_in ms
unfolding run_in
run-Var name ty line ms = refl

pub run-Setup : (params : List Param) (stmts : List Stmt) (line : ℕ) (ms : List Member) → run_in (member.Setup params stmts line ∷ ms) ≡ run_in ms
unfolding run_in
run-Setup params stmts line ms = refl

pub run-Run : (stmts : List Stmt) (line : ℕ) (ms : List Member) → run_in (member.Run stmts line ∷ ms) ≡ Some (record { place = InRun; params = []; stmts = stmts; line = line })
unfolding run_in
run-Run stmts line ms = refl

pub run-Method : (name : List ℕ) (params : List Param) (stmts : List Stmt) (line : ℕ) (ms : List Member) → run_in (member.Method name params stmts line ∷ ms) ≡ run_in ms
unfolding run_in
run-Method name params stmts line ms = refl

pub run-Receive : (message : PatternTree) (from : Option PatternTree) (labels : List (List ℕ)) (stmts : List Stmt) (line : ℕ) (ms : List Member) → run_in (member.Receive message from labels stmts line ∷ ms) ≡ run_in ms
unfolding run_in
run-Receive message from labels stmts line ms = refl

pub ruleset run_rules = (run-none, run-Var, run-Setup, run-Run, run-Method, run-Receive)

pub handlers-none : (called : Called) (x : Extent) → with_handlers called x [] ≡ x
unfolding with_handlers
handlers-none called x = refl

pub handlers-Var : (called : Called) (x : Extent) (name : List ℕ) (ty : Ty) (line : ℕ) (ms : List Member) → with_handlers called x (member.Var name ty line ∷ ms) ≡ with_handlers called x ms
unfolding with_handlers
handlers-Var called x name ty line ms = refl

pub handlers-Setup : (called : Called) (x : Extent) (params : List Param) (stmts : List Stmt) (line : ℕ) (ms : List Member) → with_handlers called x (member.Setup params stmts line ∷ ms) ≡ with_handlers called x ms
unfolding with_handlers
handlers-Setup called x params stmts line ms = refl

pub handlers-Run : (called : Called) (x : Extent) (stmts : List Stmt) (line : ℕ) (ms : List Member) → with_handlers called x (member.Run stmts line ∷ ms) ≡ with_handlers called x ms
unfolding with_handlers
handlers-Run called x stmts line ms = refl

pub handlers-Method : (called : Called) (x : Extent) (name : List ℕ) (params : List Param) (stmts : List Stmt) (line : ℕ) (ms : List Member) → with_handlers called x (member.Method name params stmts line ∷ ms) ≡ with_handlers called x ms
unfolding with_handlers
handlers-Method called x name params stmts line ms = refl

pub handlers-Receive : (called : Called) (x : Extent) (message : PatternTree) (from : Option PatternTree) (labels : List (List ℕ)) (stmts : List Stmt) (line : ℕ) (ms : List Member) → with_handlers called x (member.Receive message from labels stmts line ∷ ms) ≡ with_handlers called (beside x (handler_extent called (record { place = InHandler message from labels; params = []; stmts = stmts; line = line }))) ms
unfolding with_handlers
handlers-Receive called x message from labels stmts line ms = refl

pub ruleset handlers_rules = (handlers-none, handlers-Var, handlers-Setup, handlers-Run, handlers-Method, handlers-Receive)

pub variables-counted : (ms : List Member) → count_by is_variable ms ≡ length (filter_map variable_in ms)
variables-counted [] = refl
variables-counted (member.Var name ty line ∷ ms) = omega (arith, sum_by-cons (λ (x : Member). cond (is_variable x) 1 0) (member.Var name ty line) ms, variables-counted ms)
variables-counted (member.Setup params stmts line ∷ ms) = omega (arith, sum_by-cons (λ (x : Member). cond (is_variable x) 1 0) (member.Setup params stmts line) ms, variables-counted ms)
variables-counted (member.Run stmts line ∷ ms) = omega (arith, sum_by-cons (λ (x : Member). cond (is_variable x) 1 0) (member.Run stmts line) ms, variables-counted ms)
variables-counted (member.Method name params stmts line ∷ ms) = omega (arith, sum_by-cons (λ (x : Member). cond (is_variable x) 1 0) (member.Method name params stmts line) ms, variables-counted ms)
variables-counted (member.Receive message from labels stmts line ∷ ms) = omega (arith, sum_by-cons (λ (x : Member). cond (is_variable x) 1 0) (member.Receive message from labels stmts line) ms, variables-counted ms)

-- what is left of a list at a place
drop_at : {A : Type 0} (xs : List A) (i : ℕ) (x : A) → i < length xs → x ≡ get_or xs i x → drop i xs ≡ x ∷ drop (suc i) xs
drop_at [] i x inside here = absurd (omega (arith, inside))
drop_at (y ∷ xs) zero x inside here = ap (λ z. z ∷ xs) (sym here)
drop_at (y ∷ xs) (suc i) x inside here = drop_at xs i x (omega (arith, inside)) here

pub dropped : {A : Type 0} (xs : List A) (i : ℕ) (x : A) → i < length xs → x ≡ get_or xs i x → drop i xs ≡ x ∷ drop (i + 1) xs
dropped xs i x inside here = let next : suc i ≡ i + 1 = omega arith in drop_at xs i x inside here ∙ ap (λ n. x ∷ drop n xs) next

pub dropped_all : {A : Type 0} (xs : List A) (i : ℕ) → length xs ≤ i → drop i xs ≡ []
dropped_all [] zero end = refl
dropped_all [] (suc i) end = refl
dropped_all (x ∷ xs) zero end = absurd (omega (arith, end))
dropped_all (x ∷ xs) (suc i) end = dropped_all xs i (omega (arith, end))

setup_passes : (m : Member) → ((params : List Param) (stmts : List Stmt) (line : ℕ) → m ≡ member.Setup params stmts line → ⊥) → (ms : List Member) → setup_in (m ∷ ms) ≡ setup_in ms
setup_passes (member.Var name ty line) other ms = setup-Var name ty line ms
setup_passes (member.Setup params stmts line) other ms = absurd (other params stmts line refl)
setup_passes (member.Run stmts line) other ms = setup-Run stmts line ms
setup_passes (member.Method name params stmts line) other ms = setup-Method name params stmts line ms
setup_passes (member.Receive message from labels stmts line) other ms = setup-Receive message from labels stmts line ms

run_passes : (m : Member) → ((stmts : List Stmt) (line : ℕ) → m ≡ member.Run stmts line → ⊥) → (ms : List Member) → run_in (m ∷ ms) ≡ run_in ms
run_passes (member.Var name ty line) other ms = run-Var name ty line ms
run_passes (member.Setup params stmts line) other ms = run-Setup params stmts line ms
run_passes (member.Run stmts line) other ms = absurd (other stmts line refl)
run_passes (member.Method name params stmts line) other ms = run-Method name params stmts line ms
run_passes (member.Receive message from labels stmts line) other ms = run-Receive message from labels stmts line ms

handlers_passes : (called : Called) (x : Extent) (m : Member) → ((message : PatternTree) (from : Option PatternTree) (labels : List (List ℕ)) (stmts : List Stmt) (line : ℕ) → m ≡ member.Receive message from labels stmts line → ⊥) → (ms : List Member) → with_handlers called x (m ∷ ms) ≡ with_handlers called x ms
handlers_passes called x (member.Var name ty line) other ms = handlers-Var called x name ty line ms
handlers_passes called x (member.Setup params stmts line) other ms = handlers-Setup called x params stmts line ms
handlers_passes called x (member.Run stmts line) other ms = handlers-Run called x stmts line ms
handlers_passes called x (member.Method name params stmts line) other ms = handlers-Method called x name params stmts line ms
handlers_passes called x (member.Receive message from labels stmts line) other ms = absurd (other message from labels stmts line refl)

pub setup_step : (ms : List Member) (i : ℕ) (m : Member) → i < length ms → m ≡ get_or ms i m → ((params : List Param) (stmts : List Stmt) (line : ℕ) → m ≡ member.Setup params stmts line → ⊥) → setup_in (drop i ms) ≡ setup_in ms → setup_in (drop (i + 1) ms) ≡ setup_in ms
setup_step ms i m inside here other so_far = sym (setup_passes m other (drop (i + 1) ms)) ∙ ap setup_in (sym (dropped ms i m inside here)) ∙ so_far

pub setup_here : (ms : List Member) (i : ℕ) (m : Member) (params : List Param) (stmts : List Stmt) (line : ℕ) → i < length ms → m ≡ get_or ms i m → m ≡ member.Setup params stmts line → setup_in (drop i ms) ≡ setup_in ms → setup_in ms ≡ Some (record { place = InSetup; params = params; stmts = stmts; line = line })
setup_here ms i m params stmts line inside here is so_far = sym so_far ∙ ap setup_in (dropped ms i m inside here ∙ ap (λ n. n ∷ drop (i + 1) ms) is) ∙ setup-Setup params stmts line (drop (i + 1) ms)

pub setup_end : (ms : List Member) (i : ℕ) → length ms ≤ i → setup_in (drop i ms) ≡ setup_in ms → setup_in ms ≡ None
setup_end ms i end so_far = sym so_far ∙ ap setup_in (dropped_all ms i end) ∙ setup-none

pub run_step : (ms : List Member) (i : ℕ) (m : Member) → i < length ms → m ≡ get_or ms i m → ((stmts : List Stmt) (line : ℕ) → m ≡ member.Run stmts line → ⊥) → run_in (drop i ms) ≡ run_in ms → run_in (drop (i + 1) ms) ≡ run_in ms
run_step ms i m inside here other so_far = sym (run_passes m other (drop (i + 1) ms)) ∙ ap run_in (sym (dropped ms i m inside here)) ∙ so_far

pub run_here : (ms : List Member) (i : ℕ) (m : Member) (stmts : List Stmt) (line : ℕ) → i < length ms → m ≡ get_or ms i m → m ≡ member.Run stmts line → run_in (drop i ms) ≡ run_in ms → run_in ms ≡ Some (record { place = InRun; params = []; stmts = stmts; line = line })
run_here ms i m stmts line inside here is so_far = sym so_far ∙ ap run_in (dropped ms i m inside here ∙ ap (λ n. n ∷ drop (i + 1) ms) is) ∙ run-Run stmts line (drop (i + 1) ms)

pub run_end : (ms : List Member) (i : ℕ) → length ms ≤ i → run_in (drop i ms) ≡ run_in ms → run_in ms ≡ None
run_end ms i end so_far = sym so_far ∙ ap run_in (dropped_all ms i end) ∙ run-none

pub handlers_step : (called : Called) (x more whole : Extent) (ms : List Member) (i : ℕ) (m : Member) → i < length ms → m ≡ get_or ms i m
    → ((message : PatternTree) (from : Option PatternTree) (labels : List (List ℕ)) (stmts : List Stmt) (line : ℕ) → m ≡ member.Receive message from labels stmts line → ⊥)
    → more ≡ x → with_handlers called x (drop i ms) ≡ whole → with_handlers called more (drop (i + 1) ms) ≡ whole
handlers_step called x more whole ms i m inside here other same so_far = ap (λ e. with_handlers called e (drop (i + 1) ms)) same ∙ sym (handlers_passes called x m other (drop (i + 1) ms)) ∙ ap (with_handlers called x) (sym (dropped ms i m inside here)) ∙ so_far

pub handlers_here : (called : Called) (x y more whole : Extent) (ms : List Member) (i : ℕ) (m : Member) (message : PatternTree) (from : Option PatternTree) (labels : List (List ℕ)) (stmts inner : List Stmt) (line : ℕ) → i < length ms → m ≡ get_or ms i m
    → m ≡ member.Receive message from labels stmts line → inner ≡ stmts → y ≡ handler_extent called (record { place = InHandler message from labels; params = []; stmts = inner; line = line }) → more ≡ beside x y
    → with_handlers called x (drop i ms) ≡ whole → with_handlers called more (drop (i + 1) ms) ≡ whole
handlers_here called x y more whole ms i m message from labels stmts inner line inside here is body this grown so_far =
    ap (λ e. with_handlers called e (drop (i + 1) ms)) (grown ∙ ap (beside x) (this ∙ ap (λ ss. handler_extent called (record { place = InHandler message from labels; params = []; stmts = ss; line = line })) body)) ∙ sym (handlers-Receive called x message from labels stmts line (drop (i + 1) ms))
    ∙ ap (λ n. with_handlers called x (n ∷ drop (i + 1) ms)) (sym is) ∙ ap (with_handlers called x) (sym (dropped ms i m inside here)) ∙ so_far

pub handlers_end : (called : Called) (x whole : Extent) (ms : List Member) (i : ℕ) → length ms ≤ i → with_handlers called x (drop i ms) ≡ whole → x ≡ whole
handlers_end called x whole ms i end so_far = sym (handlers-none called x) ∙ ap (with_handlers called x) (sym (dropped_all ms i end)) ∙ so_far

-- counting variables
variables-first : (m : Member) (ms : List Member) (b : Bool) → is_variable m ≡ b → count_by is_variable (m ∷ ms) ≡ cond b 1 0 + count_by is_variable ms
variables-first m ms b is = sum_by-cons (λ (x : Member). cond (is_variable x) 1 0) m ms ∙ ap (λ c. cond c 1 0 + count_by is_variable ms) is

pub variables_step : (ms : List Member) (i : ℕ) (m : Member) (b : Bool) (count more whole : ℕ) → i < length ms → m ≡ get_or ms i m → is_variable m ≡ b → more ≡ capped (count + cond b 1 0)
    → capped (count + count_by is_variable (drop i ms)) ≡ whole → capped (more + count_by is_variable (drop (i + 1) ms)) ≡ whole
variables_step ms i m true count more whole inside here is grown so_far =
    omega (arith, grown, so_far, ap (count_by is_variable) (dropped ms i m inside here), variables-first m (drop (i + 1) ms) true is)
variables_step ms i m false count more whole inside here is grown so_far =
    omega (arith, grown, so_far, ap (count_by is_variable) (dropped ms i m inside here), variables-first m (drop (i + 1) ms) false is)

pub variables_end : (ms : List Member) (i count whole : ℕ) → length ms ≤ i → count < 65536 → capped (count + count_by is_variable (drop i ms)) ≡ whole → count ≡ whole
variables_end ms i count whole end fits so_far = omega (arith, fits, so_far, ap (count_by is_variable) (dropped_all ms i end))
