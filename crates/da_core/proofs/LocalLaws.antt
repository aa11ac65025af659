-- The value of a local state tells it from others, and two processes that have it stand for the same worlds.
use Rattle.std.proofs.Common.{◌≡◌, refl, sym, ◌∙◌, ap, subst, ℕ, zero, suc, List, [], ◌∷◌, map}
use Rattle.std.specs.Prelude.{Option, Some, None, ℤ, pos, slice_get}
use Rattle.da_values.specs.declared.val.Val.{Val}
use Rattle.da_values.specs.declared.val.Val.TheVariants.{Tuple}
use Rattle.da_values.specs.declared.value.Value.{Value}
use Rattle.da_values.specs.declared.value.Value.TheVariants as kept
use Rattle.da_values.specs.Views.{int_of, parts_of}
use Rattle.da_values.proofs.ViewLaws.{int_of-Int, parts_of-Tuple}
use Rattle.da_lang.specs.declared.code.Instr.TheVariants as op
use Rattle.da_lang.specs.declared.program.Class.{Class}
use Rattle.da_lang.specs.declared.program.Program.{Program}
use Rattle.da_lang.specs.declared.query.Node.{Node}
use Rattle.da_lang.specs.Live.{live_rows}
use Rattle.da_lang.specs.Matching.{Row}
use Rattle.da_lang.specs.Shaped.{ShapedData, ShapedTasks}
use Rattle.da_lang.specs.Steps.{first_tasks}
use Rattle.da_lang.specs.World.{World, Phase, New, Waiting, Ended, Faulted, class_of}
use Rattle.da_machine.specs.declared.code.Code.{Code}
use Rattle.da_machine.specs.declared.machine.Machine.{Machine}
use Rattle.da_machine.specs.CodeFor.{CodeFor, Has}
use Rattle.da_core.specs.declared.compiled.Compiled.{Compiled}
use Rattle.da_core.specs.declared.place.Place.{Place}
use Rattle.da_core.specs.declared.place.Place.TheVariants as place
use Rattle.da_core.specs.declared.process.Core.{Core}
use Rattle.da_core.specs.Compiled.{code_of}
use Rattle.da_core.specs.Compiled as compiled
use Rattle.da_core.specs.LocalState.{CountIs, HasCount, LocalDecides, LocalState, number_value, place_count, place_kind, rows_value, sets_value, state_of, state_value}
use Rattle.da_core.specs.StandsFor.{IsAt, IsPlace, StandsFor, compiled_of}
use Rattle.da_core.proofs.LiveLaws.{each_lives, head_same, rows_by_lives, tail_same}
use Rattle.delta_rules.specs.Keeping.{all_live, all_rows}
use Rattle.query_plan.specs.declared.plan.Plan.{Plan}
use Rattle.query_plan.specs.PlanLive.{plan_live}
use Rattle.query_plan.specs.Questions.{norm_class}

-- THE VALUE TELLS THE LOCAL STATE

same_parts : (xs ys : List Val) → Tuple xs ≡ Tuple ys → xs ≡ ys
same_parts xs ys e = sym (parts_of-Tuple xs) ∙ ap parts_of e ∙ parts_of-Tuple ys

abbrev natural : ℤ → ℕ
natural (pos n) = n
natural _ = 0

same_number : (m n : ℕ) → number_value m ≡ number_value n → m ≡ n
same_number m n e = ap natural (sym (int_of-Int (pos m)) ∙ ap int_of e ∙ int_of-Int (pos n))

-- a function that tells values apart tells lists of them apart
same_map : {A : Type 0} (f : A → Val) → ((x y : A) → f x ≡ f y → x ≡ y) → (xs ys : List A) → map f xs ≡ map f ys → xs ≡ ys
same_map f tells [] [] e = refl
same_map f tells [] (y ∷ ys) e = absurd (cc)
same_map f tells (x ∷ xs) [] e = absurd (cc)
same_map f tells (x ∷ xs) (y ∷ ys) e =
    ap (λ z. z ∷ xs) (tells x y (head_same (f x) (f y) (map f xs) (map f ys) e)) ∙ ap (λ zs. y ∷ zs) (same_map f tells xs ys (tail_same (f x) (f y) (map f xs) (map f ys) e))

same_rows : (rows others : List Row) → rows_value rows ≡ rows_value others → rows ≡ others
same_rows rows others e = same_map Tuple same_parts rows others (same_parts (map Tuple rows) (map Tuple others) e)

same_sets : (sets others : List (List Row)) → sets_value sets ≡ sets_value others → sets ≡ others
same_sets sets others e = same_map rows_value same_rows sets others (same_parts (map rows_value sets) (map rows_value others) e)

abbrev place_from : ℕ → ℕ → Place
place_from zero n = place.New
place_from (suc zero) n = place.Label
place_from (suc (suc zero)) n = place.Ended
place_from (suc (suc (suc zero))) n = place.Faulted
place_from (suc (suc (suc (suc k)))) n = place.Await n

place_again : (p : Place) → place_from (place_kind p) (place_count p) ≡ p
place_again place.New = refl
place_again place.Label = refl
place_again place.Ended = refl
place_again place.Faulted = refl
place_again (place.Await count) = refl

same_place : (p q : Place) → place_kind p ≡ place_kind q → place_count p ≡ place_count q → p ≡ q
same_place p q kinds counts = sym (place_again p) ∙ ap (λ k. place_from k (place_count p)) kinds ∙ ap (place_from (place_kind q)) counts ∙ place_again q

-- the parts, one by one
pub record SameStates (s t : LocalState) : Type 0 where
  pub me : s.me ≡ t.me
  pub clock : s.clock ≡ t.clock
  pub place : s.place ≡ t.place
  pub at : s.at ≡ t.at
  pub loops : s.loops ≡ t.loops
  pub slots : s.slots ≡ t.slots
  pub live : s.live ≡ t.live

pub same_states : (s t : LocalState) → state_value s ≡ state_value t → SameStates s t
same_states s t e =
    let e1 = same_parts _ _ e in
    let e2 = tail_same _ _ _ _ e1 in
    let e3 = tail_same _ _ _ _ e2 in
    let e4 = tail_same _ _ _ _ e3 in
    let e5 = tail_same _ _ _ _ e4 in
    let e6 = tail_same _ _ _ _ e5 in
    let e7 = tail_same _ _ _ _ e6 in
    let e8 = tail_same _ _ _ _ e7 in
    record {
      me = same_number s.me t.me (head_same _ _ _ _ e1);
      clock = same_number s.clock t.clock (head_same _ _ _ _ e2);
      place =
          same_place s.place t.place (same_number (place_kind s.place) (place_kind t.place) (head_same _ _ _ _ e3))
          (same_number (place_count s.place) (place_count t.place) (head_same _ _ _ _ e4));
      at = same_number s.at t.at (head_same _ _ _ _ e5);
      loops = same_rows s.loops t.loops (head_same _ _ _ _ e6);
      slots = same_parts s.slots t.slots (head_same _ _ _ _ e7);
      live = same_sets s.live t.live (head_same _ _ _ _ e8);
    }

-- THE ALTERNATIVES

some_same : {A : Type 0} {x y : A} → ◌≡◌ {A = Option A} (Some x) (Some y) → x ≡ y
some_same {A} {x} {y} e = ap or_x e
  where
    or_x : Option A → A
    or_x None = x
    or_x (Some z) = z

-- the number that is kept is that of the alternatives of each process with the local state
pub count_is : (compiled : Compiled) (v : Value) (n : ℕ) → HasCount v n → CountIs compiled v n
count_is compiled (kept.Tuple parts) n has w is =
    let same = same_parts _ _ is.has in
    same_number n (place_count is.core.place) (some_same (sym has ∙ sym (ap (λ xs. slice_get xs 3) same)))
count_is compiled (kept.Int number) n has w is = absurd has
count_is compiled (kept.Bool truth) n has w is = absurd has
count_is compiled (kept.Text text) n has w is = absurd has
count_is compiled (kept.Proc process) n has w is = absurd has
count_is compiled (kept.Set elements) n has w is = absurd has

-- THE LOCAL STATE DECIDES

-- where a machine stands is a matter of its place and of its loops
stands_there : (p : Program) (class : Class) (code : Code) (m n : Machine) (w : World) (phase : Phase) → n.place ≡ m.place → n.loops ≡ m.loops → IsAt p class code n w phase → IsAt p class code m w phase
stands_there p class code m n w New place loops at = subst (λ l. CodeFor code class m.place l (first_tasks p class w.data'.me)) loops (subst (λ k. CodeFor code class k n.loops (first_tasks p class w.data'.me)) place at)
stands_there p class code m n w Waiting place loops at = record {
  number = at.number;
  there = subst (λ k. Has code k (op.Yield at.number)) place at.there;
  code_for = subst (λ l. CodeFor code class m.place l w.todo) loops (subst (λ k. CodeFor code class k n.loops w.todo) place at.code_for);
}
stands_there p class code m n w Ended place loops at = tt
stands_there p class code m n w Faulted place loops at = tt

module _ (a b : Core) (v w : World) (one_program : compiled_of a ≡ compiled_of b) (same : SameStates (state_of a) (state_of b)) (first : StandsFor a v) (second : StandsFor b w) where
  -- both are of one process, so of one class with one plan
  one_number : v.data'.me ≡ w.data'.me
  one_number = sym first.stands.keeps.me ∙ same.me ∙ second.stands.keeps.me

  one_class : first.class ≡ second.class
  one_class =
      some_same (sym first.knows.is_class ∙ ap (class_of (compiled.program_of a.compiled.now)) one_number
      ∙ ap (λ (c : Compiled). class_of (compiled.program_of c) w.data'.me) one_program ∙ second.knows.is_class)

  plan_is : a.known.plan.now ≡ norm_class second.class
  plan_is = first.stands.plan ∙ ap norm_class one_class

  one_plan : a.known.plan.now ≡ b.known.plan.now
  one_plan = plan_is ∙ sym second.stands.plan

  -- what is stored of the plan has the live patterns of the plan, so both match the same rows of these
  abbrev nodes : List Node
  nodes = a.known.stored.now.plan.nodes

  abbrev others : List Node
  others = b.known.stored.now.plan.nodes

  one_live : plan_live others ≡ plan_live nodes
  one_live = second.stands.stored.live ∙ sym (ap (λ (plan : Plan). plan_live plan.nodes) one_plan) ∙ sym first.stands.stored.live

  lives_are : all_live v.data' nodes ≡ all_live w.data' nodes
  lives_are =
      sym first.stands.keeps.live ∙ same.live ∙ second.stands.keeps.live
      ∙ ap (map (λ p. live_rows p w.data')) one_live

  one_slots : v.data'.slots ≡ w.data'.slots
  one_slots = sym first.stands.keeps.values ∙ same.slots ∙ second.stands.keeps.values

  rows_are : all_rows v.data' nodes ≡ all_rows w.data' nodes
  rows_are = rows_by_lives v.data' w.data' one_number one_slots nodes first.stands.stored.plain (each_lives v.data' w.data' (plan_live nodes) lives_are)

  pub stands_too : StandsFor a w
  stands_too = record {
    unspent = first.unspent;
    compiled = first.compiled;
    class = second.class;
    code = second.code;
    code_is = subst (λ c. code_of c w.data'.me ≡ Some second.code) (sym one_program) second.code_is;
    knows = subst (λ (c : Compiled). ShapedData (compiled.program_of c) second.class w.data') (sym one_program) second.knows;
    tasks = subst (λ (c : Compiled). ShapedTasks (compiled.program_of c) second.class w.data'.me w.todo) (sym one_program) second.tasks;
    stands = record {
      plan = plan_is;
      clock = second.stands.clock ∙ sym same.clock;
      stored = first.stands.stored;
      keeps = record {
        me = same.me ∙ second.stands.keeps.me;
        slots = first.stands.keeps.slots ∙ one_slots;
        values = same.slots ∙ second.stands.keeps.values;
        rows = first.stands.keeps.rows ∙ rows_are;
        live = first.stands.keeps.live ∙ lives_are;
      };
      laid = first.stands.laid;
      held = first.stands.held;
    };
    no_actions = first.no_actions;
    place = subst (λ k. IsPlace w.todo k w.phase) (sym same.place) second.place;
    at = subst (λ (c : Compiled). IsAt (compiled.program_of c) second.class second.code.code a.machine w w.phase) (sym one_program)
        (stands_there (compiled.program_of b.compiled.now) second.class second.code.code a.machine b.machine w w.phase (sym same.at) (sym same.loops) second.at);
    no_values = first.no_values;
  }

pub local_decides : LocalDecides
local_decides a b v w one_program e first second = stands_too a b v w one_program (same_states (state_of a) (state_of b) e) first second
