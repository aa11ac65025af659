-- A run of statements that hold no yield point stops at none.
use Rattle.std.specs.Prelude.{◌≡◌, refl, ℕ, zero, suc, ◌+◌, ◌-◌, Bool, true, false, nat_le, if◌then◌else◌, List, [], ◌∷◌, map, Ok, Err}
use Rattle.std.specs.List.{All}
use Rattle.std.proofs.Common.{◌∙◌, sym, inl, inr}
use Rattle.std.proofs.lemmas.Bool.{false≢true}
use Rattle.std.proofs.lemmas.List.Elements.{All-nil, All-cons, All-append, All-head, All-tail}
use Rattle.da_values.specs.declared.val.Val.{Val}
use Rattle.da_values.specs.Sets.{Has}
use Rattle.da_values.specs.Views.{truth_of, elements_of}
use Rattle.da_lang.specs.declared.program.Alt.{Alt}
use Rattle.da_lang.specs.declared.program.Class.{Class}
use Rattle.da_lang.specs.declared.program.Item.{Item}
use Rattle.da_lang.specs.declared.program.ItemKind.{ItemKind}
use Rattle.da_lang.specs.declared.program.ItemKind.TheOpen.{ItemKind-F, Assign, Add, Del, Send, Output, If, While, For, Call, Await, Label, Pass}
use Rattle.da_lang.specs.declared.program.ItemKind.TheViews.{out-RBranch}
use Rattle.da_lang.specs.declared.program.RBranch.{RBranch}
use Rattle.da_lang.specs.Arithmetic.{Outcome}
use Rattle.da_lang.specs.Evaluation.{Outcomes, eval, eval_all}
use Rattle.da_lang.specs.Runs.{Halt, AtYield, Ran, stopped, go_after, max_turns, yields, run, run_to_yield}
use Rattle.da_lang.specs.Shaped.{here, deeper, blocks_of}
use Rattle.da_lang.specs.Turns.{AfterTurn, choose, do_all, kind_of, kind_turn, line_of, loop_turn, max_packet, packet_len, recipients, send_if, turn, value_of_arg, with_outcome, with_outcomes}
use Rattle.da_lang.specs.World.{Data, Task, Do, Loop, Prepare}
use Rattle.da_lang.proofs.RunBounds.{by_truth, go_after_has}
use Rattle.da_types.specs.KeepsShaped.{HasNoYield}
use Rattle.da_types.proofs.shaped.NoYields.{ItemGoes}
use Rattle.da_types.proofs.shaped.TasksKept.{branch_block, call_block, for_block, other_block, while_block}

-- what is to do holds no yield point
abbrev pub TaskGoes : Task → Type 0
TaskGoes (Do i) = ItemGoes i
TaskGoes (Loop slot left body line) = HasNoYield body
TaskGoes (Prepare call) = ⊥

item_goes : (items : List Item) (i : Item) → HasNoYield items → Has items i → ItemGoes i
item_goes items i none h = record { itself = none i (here h); blocks = λ body block j within. none j (deeper i body h block within) }

go_tasks : (items : List Item) → ((i : Item) → Has items i → ItemGoes i) → All TaskGoes (map Do items)
go_tasks [] each = All-nil TaskGoes
go_tasks (i ∷ items) each = All-cons TaskGoes (Do i) (map Do items) (each i (inl refl)) (go_tasks items (λ j h. each j (inr h)))

block_tasks_go : (body : List Item) (todo : List Task) → HasNoYield body → All TaskGoes todo → All TaskGoes (do_all body todo)
block_tasks_go body todo none rest = All-append TaskGoes (map Do body) todo (go_tasks body (λ i h. item_goes body i none h)) rest

module _ (c : Class) (line : ℕ) (d : Data) (todo : List Task) (rest : All TaskGoes todo) where
  abbrev Goes : AfterTurn → Type 0
  Goes after = All TaskGoes after.todo

  outcome_goes : (o : Outcome) (go : Val → AfterTurn) → ((v : Val) → Goes (go v)) → Goes (with_outcome c line d todo o go)
  outcome_goes (Err kind) go each = rest
  outcome_goes (Ok v) go each = each v

  outcomes_go : (o : Outcomes) (go : List Val → AfterTurn) → ((vs : List Val) → Goes (go vs)) → Goes (with_outcomes c line d todo o go)
  outcomes_go (Err kind) go each = rest
  outcomes_go (Ok vs) go each = each vs

  send_goes : (small : Bool) (m : Val) (to : List ℕ) → Goes (send_if c line d todo small m to)
  send_goes true m to = rest
  send_goes false m to = rest

  chosen_goes : (b : Bool) (x y : AfterTurn) → Goes x → Goes y → Goes (if b then x else y)
  chosen_goes true x y first second = first
  chosen_goes false x y first second = second

  loop_goes : (slot : ℕ) (left : List Val) (body : List Item) → HasNoYield body → Goes (loop_turn c line d todo slot left body)
  loop_goes slot [] body none = rest
  loop_goes slot (x ∷ xs) body none = block_tasks_go body (Loop slot xs body line ∷ todo) none (All-cons TaskGoes (Loop slot xs body line) todo none rest)

  module _ (i : Item) (goes : ItemGoes i) where
    choose_goes : (branches bs : List RBranch) (other : List Item) → kind_of i ≡ If branches other → ((b : RBranch) → Has bs b → Has branches b) → Goes (choose c line d todo bs other)
    choose_goes branches [] other is among = block_tasks_go other todo (goes.blocks other (other_block i branches other is)) rest
    choose_goes branches (b ∷ bs) other is among =
        let r = out-RBranch b in
        outcome_goes (eval c.queries r.cond d) _
        (λ v. chosen_goes (truth_of v) _ _ (block_tasks_go r.body todo (goes.blocks r.body (branch_block i branches other b is (among b (inl refl)))) rest) (choose_goes branches bs other is (λ a k. among a (inr k))))

    while_goes : (body : List Item) → Has (blocks_of i) body → (b : Bool) → All TaskGoes (if b then do_all body (Do i ∷ todo) else todo)
    while_goes body block true = block_tasks_go body (Do i ∷ todo) (goes.blocks body block) (All-cons TaskGoes (Do i) todo goes rest)
    while_goes body block false = rest

    kind_goes_on : (kind : ItemKind-F ItemKind Alt Item RBranch) → kind_of i ≡ kind → Goes (kind_turn c line d todo (Do i) kind)
    kind_goes_on (Assign slot x) is = outcome_goes (eval c.queries x d) _ (λ v. rest)
    kind_goes_on (Add slot x) is = outcome_goes (eval c.queries x d) _ (λ v. rest)
    kind_goes_on (Del slot x) is = outcome_goes (eval c.queries x d) _ (λ v. rest)
    kind_goes_on (Send x to) is = outcome_goes (eval c.queries x d) _ (λ m. outcome_goes (eval c.queries to d) _ (λ w. send_goes (nat_le (packet_len m) max_packet) m (recipients w)))
    kind_goes_on (Output x) is = outcome_goes (eval c.queries x d) _ (λ v. rest)
    kind_goes_on (If branches other) is = choose_goes branches branches other is (λ b h. h)
    kind_goes_on (While x body) is = outcome_goes (eval c.queries x d) _ (λ v. while_goes body (while_block i x body is) (truth_of v))
    kind_goes_on (For slot x body) is = outcome_goes (eval c.queries x d) _ (λ v. All-cons TaskGoes (Loop slot (elements_of v) body line) todo (goes.blocks body (for_block i slot x body is)) rest)
    kind_goes_on (Call args body) is = outcomes_go (eval_all c.queries (map value_of_arg args) d) _ (λ vs. block_tasks_go body todo (goes.blocks body (call_block i args body is)) rest)
    kind_goes_on (Await alts timeout label) is = rest
    kind_goes_on (Label l) is = rest
    kind_goes_on Pass is = rest

turn_goes_on : (c : Class) (t : Task) (d : Data) (todo : List Task) → TaskGoes t → All TaskGoes todo → All TaskGoes (turn c t d todo).todo
turn_goes_on c (Do i) d todo goes rest = kind_goes_on c (line_of i) d todo rest i goes (kind_of i) refl
turn_goes_on c (Loop slot left body line) d todo goes rest = loop_goes c line d todo rest slot left body goes
turn_goes_on c (Prepare call) d todo goes rest = absurd goes

yields_not : (t : Task) → TaskGoes t → yields t ≡ false
yields_not (Do i) goes = goes.itself
yields_not (Loop slot left body line) goes = refl
yields_not (Prepare call) goes = refl

abbrev pub StopsElsewhere : Ran → Type 0
StopsElsewhere ran = ran.halt ≡ AtYield → ⊥

late : (b : Bool) (other : Halt) → b ≡ false → (other ≡ AtYield → ⊥) → (if b then AtYield else other) ≡ AtYield → ⊥
late true other e no_ at = absurd (false≢true (sym e))
late false other e no_ at = no_ at

run_goes_on : (c : Class) (left n : ℕ) (d : Data) (todo : List Task) → All TaskGoes todo → StopsElsewhere (run c left n d todo)
unfolding run
run_goes_on c zero n d [] rest = λ at. absurd (cc)
run_goes_on c (suc left) n d [] rest = λ at. absurd (cc)
run_goes_on c zero n d (t ∷ todo) rest = late (yields t) _ (yields_not t (All-head TaskGoes t todo rest)) (λ at. absurd (cc))
run_goes_on c (suc left) n d (t ∷ todo) rest =
    by_truth StopsElsewhere (yields t) (stopped d (t ∷ todo) n AtYield) (go_after (turn c t d todo) (n + 1) (run c left (n + 1)))
    (λ is. absurd (false≢true (sym (yields_not t (All-head TaskGoes t todo rest)) ∙ is)))
    (λ is. go_after_has StopsElsewhere (turn c t d todo) (n + 1) (run c left (n + 1)) (λ kind line at. absurd (cc))
    (run_goes_on c left (n + 1) (turn c t d todo).data' (turn c t d todo).todo (turn_goes_on c t d todo (All-head TaskGoes t todo rest) (All-tail TaskGoes t todo rest))))

-- the run of a body without yield points
pub body_run_ends : (c : Class) (n : ℕ) (d : Data) (body : List Item) → HasNoYield body → (run_to_yield c n d (do_all body [])).halt ≡ AtYield → ⊥
body_run_ends c n d body none = run_goes_on c (max_turns - n) n d (do_all body []) (block_tasks_go body [] none (All-nil TaskGoes))
