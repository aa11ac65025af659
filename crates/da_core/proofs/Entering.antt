-- Where the move of a core goes on in the code.
use Rattle.std.proofs.Common.{◌≡◌, ℕ, zero, suc, ◌+◌, ◌<◌, ◌≤◌, List, [], ◌∷◌, ◌++◌, drop, get_or, length, map, Option, Some, None, refl, sym, ap, ◌∙◌, subst, arith}
use Rattle.std.specs.Prelude.{Bool, true, false, not, ◌&&◌, ◌||◌, if◌then◌else◌, MatchOption, is_some, option_to_list, slice_get}
use Rattle.std.specs.List.{AllZip, list_any}
use Rattle.std.specs.Option.{option_map}
use Rattle.da_values.specs.declared.val.Val.{Val}
use Rattle.da_lang.specs.declared.code.Instr.TheVariants as op
use Rattle.da_lang.specs.declared.program.Alt.{Alt}
use Rattle.da_lang.specs.declared.program.Class.{Class}
use Rattle.da_lang.specs.declared.program.Item.{Item}
use Rattle.da_lang.specs.declared.program.ItemKind.{ItemKind}
use Rattle.da_lang.specs.declared.program.ItemKind.TheOpen as kind
use Rattle.da_lang.specs.declared.program.ItemKind.TheOpen.{ItemKind-F}
use Rattle.da_lang.specs.declared.program.ItemKind.TheViews.{out-Alt}
use Rattle.da_lang.specs.declared.program.ProcDecl.{ProcDecl}
use Rattle.da_lang.specs.declared.program.Program.{Program}
use Rattle.da_lang.specs.declared.program.RBranch.{RBranch}
use Rattle.da_lang.specs.Labels.{label_before, label_in}
use Rattle.da_lang.specs.Matching.{Row}
use Rattle.da_lang.specs.Queries.{holds, least_row}
use Rattle.da_lang.specs.Runs.{run_to_yield}
use Rattle.da_lang.specs.Shaped.{ShapedData, ShapedTasks, blocks_in}
use Rattle.da_lang.specs.Steps.{Step, TimeOut, first_tasks, move_step, moved, proc_step}
use Rattle.da_lang.specs.Turns.{bind_found, bind_row, do_all, kind_of}
use Rattle.da_lang.specs.World.{Data, Task, Do, World, Phase, New, Waiting, Ended, Faulted, at_number, class_of, class_of_decl}
use Rattle.da_lang.proofs.MoveLaws.{step_begins, step_at_label, step_at_await, step_times_out}
use Rattle.da_types.proofs.shaped.DataKept.{bound-me}
use Rattle.da_types.proofs.shaped.StatementValues.{alt_row_fits}
use Rattle.da_types.proofs.shaped.TurnsKept.{found_bound}
use Rattle.da_machine.specs.declared.code.Code.{Code}
use Rattle.da_machine.specs.declared.code.YieldPoint.{YieldPoint}
use Rattle.da_machine.specs.declared.machine.Machine.{Machine}
use Rattle.da_machine.specs.CodeFor.{Has as HasInstr, CodeFor}
use Rattle.da_machine.specs.Entries.{EntersEach, IsPoint}
use Rattle.da_machine.specs.Points.{AtAwait, IsNumbered, ways_of}
use Rattle.da_machine.proofs.EntryLaws.{at_point}
use Rattle.da_core.specs.declared.compiled.ClassCode.{ClassCode}
use Rattle.da_core.specs.declared.compiled.Compiled.{Compiled}
use Rattle.da_core.specs.declared.process.Core.{Core}
use Rattle.da_core.specs.declared.moves.Begin.{Begin}
use Rattle.da_core.specs.declared.place.Place.{Place}
use Rattle.da_core.specs.declared.place.Place.TheVariants as place
use Rattle.da_core.specs.declared.waits.Alternative.{Alternative}
use Rattle.da_core.specs.declared.waits.Wait.{Wait}
use Rattle.da_core.specs.Begins.{CanMove, MayRun, alternative_at, alternative_of, begin_at, begin_at_await, behind_turn, bound_by, entry_after, entry_of, flag_told, if_flag, label_of, may_time_out, point_of, some_told, timeout_at, wait_at, wait_behind}
use Rattle.da_core.specs.Compiled.{IsCodeFor, IsCompiled, code_at, code_of, program_of as compiled_program}
use Rattle.da_core.specs.Known.{Each}
use Rattle.da_core.specs.StandsFor.{Awaits, BeginsWith, IsAt, IsLabelled, IsPlace, IsWaiting, StandsFor, last_number, program_of}
use Rattle.da_core.specs.Waits.{waits_of}
use Rattle.da_core.proofs.KnownLaws.{me_is}
use Rattle.da_core.proofs.Laws.{is_whole}
use Rattle.da_core.proofs.PlanLaws.{Together, zipped_at}
use Rattle.da_core.proofs.Tasks.{alt_shaped, first_shaped, has_at, item_shaped, rest_shaped, timeout_shaped}
use Rattle.da_core.proofs.WaitLaws.{IsAlternative, IsWait, await_waits, label_waits}
use Rattle.query_plan.specs.Nodes.{node_rows}
use Rattle.query_plan.specs.Questions.{norm_class}
use Rattle.query_plan.specs.Told.{has_row}

-- THE CODE OF A PROCESS

module _ (c : Compiled) (class : Class) (code : ClassCode) (is : IsCompiled c) where
  found_code : (found : Option ProcDecl) → class_of_decl (compiled_program c) found ≡ Some class → code_at c.codes found ≡ Some code
      → (place : ℕ) × IsCodeFor (compiled_program c) place class code
  found_code None classed coded = absurd (let none : ◌≡◌ {A = Option Class} None (Some class) = classed in cc)
  found_code (Some decl) classed coded =
      let has = is.classes decl.class class classed in
      let both : ◌≡◌ {A = Option ClassCode} (Some has.code) (Some code) = sym has.there ∙ coded in
      let same : has.code ≡ code = cc in
      (decl.class, subst (IsCodeFor (compiled_program c) decl.class class) same has.is)

  pub is_code : (me : ℕ) → class_of (compiled_program c) me ≡ Some class → code_of c me ≡ Some code → (place : ℕ) × IsCodeFor (compiled_program c) place class code
  is_code me classed coded = found_code (at_number (compiled_program c).procs me) classed coded

-- ENTRIES

-- the block of an alternative stands at its place among the blocks of an `await`, and that for a timeout after them
alt_body_at : (alts : List Alt) (more : List (List Item)) (n : ℕ) (a : Alt) → slice_get alts n ≡ Some a → slice_get (map (λ x. (out-Alt x).body) alts ++ more) n ≡ Some (out-Alt a).body
alt_body_at [] more n a there = absurd (let none : ◌≡◌ {A = Option Alt} None (Some a) = there in cc)
alt_body_at (b ∷ alts) more zero a there = ap (option_map (λ x. (out-Alt x).body)) there
alt_body_at (b ∷ alts) more (suc n) a there = alt_body_at alts more n a there

timeout_body_at : (alts : List Alt) (body : List Item) → slice_get (map (λ x. (out-Alt x).body) alts ++ body ∷ []) (length alts) ≡ Some body
timeout_body_at [] body = refl
timeout_body_at (a ∷ alts) body = timeout_body_at alts body

-- an `await` and a label are not one statement
apart : (i j : Item) (alts : List Alt) (timeout : Option (List Item)) (label : Option ℕ) (number : ℕ) → i ≡ j → kind_of i ≡ kind.Await alts timeout label → kind_of j ≡ kind.Label number → ⊥
apart i j alts timeout label number same one other =
    let kinds : ◌≡◌ {A = ItemKind-F ItemKind Alt Item RBranch} (kind.Await alts timeout label) (kind.Label number) = sym one ∙ ap kind_of same ∙ other in
    cc

module _ (code : Code) (class : Class) (number : ℕ) (loops : List (List Val)) where
  pub label_entry : (todo : List Task) → IsPoint code class number loops todo → (i : Item) (rest : List Task) (l : ℕ) → todo ≡ Do i ∷ rest → kind_of i ≡ kind.Label l
      → (entry : ℕ) × (slice_get code.yields number ≡ Some (record { label = true; entries = entry ∷ [] })) × CodeFor code class entry loops rest
  label_entry _ (IsPoint.at_label j todo l entry is there numbered code_for) i rest other same label =
      let tail : todo ≡ rest = cc in
      (entry, there, subst (CodeFor code class entry loops) tail code_for)
  label_entry _ (IsPoint.at_await j todo alts timeout before entries is there numbered each) i rest other same label =
      absurd (let head : j ≡ i = cc in apart j i alts timeout before other head is label)

  -- an `await` of these parts stands there, with its entries
  pub record AwaitPoint (rest : List Task) (alts : List Alt) (timeout : Option (List Item)) (label : Option ℕ) : Type 0 where
    pub entries : List ℕ
    pub there : slice_get code.yields number ≡ Some (record { label = false; entries = entries })
    pub numbered : IsNumbered class number (AtAwait (ways_of alts) (is_some timeout) label)
    pub each : EntersEach code class loops rest (blocks_in (kind.Await alts timeout label)) entries

  pub await_point : (todo : List Task) → IsPoint code class number loops todo → (i : Item) (rest : List Task) (alts : List Alt) (timeout : Option (List Item)) (label : Option ℕ)
      → todo ≡ Do i ∷ rest → kind_of i ≡ kind.Await alts timeout label → AwaitPoint rest alts timeout label
  await_point _ (IsPoint.at_label j todo l entry is there numbered code_for) i rest alts timeout label same await =
      absurd (let head : i ≡ j = cc in apart i j alts timeout label l head await is)
  await_point _ (IsPoint.at_await j todo others late before entries is there numbered each) i rest alts timeout label same await =
      let tail : todo ≡ rest = cc in
      let head : j ≡ i = cc in
      let kinds : ◌≡◌ {A = ItemKind-F ItemKind Alt Item RBranch} (kind.Await others late before) (kind.Await alts timeout label) = sym is ∙ ap kind_of head ∙ await in
      let those : others ≡ alts = cc in
      let block : late ≡ timeout = cc in
      let name : before ≡ label = cc in
      let point : AwaitPoint todo others late before = record { entries = entries; there = there; numbered = numbered; each = each } in
      subst (λ l. AwaitPoint rest alts timeout l) name (subst (λ t. AwaitPoint rest alts t before) block
      (subst (λ ls. AwaitPoint rest ls late before) those (subst (λ tasks. AwaitPoint tasks others late before) tail point)))

pub entry_is : (code : Code) (at number n entry : ℕ) (point : YieldPoint) → HasInstr code at (op.Yield number) → slice_get code.yields number ≡ Some point → slice_get point.entries n ≡ Some entry
    → entry_after code at n ≡ Some entry
entry_is code at number n entry point here there stands = ap (λ i. entry_of (point_of code i) n) here ∙ ap (λ x. entry_of x n) there ∙ stands

-- THE ROW THAT IS BOUND

module _ (p : Program) (class : Class) where
  row-me : (binds : List ℕ) (row : Option Row) (d : Data) → (bind_row binds row d).me ≡ d.me
  row-me binds None d = refl
  row-me binds (Some row) d = bound-me p class binds row d

  found-me : (found : Option ℕ) (binds : List ℕ) (d : Data) → (bind_found class.queries found binds d).me ≡ d.me
  found-me None binds d = refl
  found-me (Some n) binds d = row-me binds (least_row class.queries n d) d

  -- a process stays itself when it binds a row
  pub alternative-me : (alternative : Option Alternative) (d : Data) → (bound_by class alternative d).me ≡ d.me
  alternative-me None d = refl
  alternative-me (Some x) d = found-me x.found x.binds d

-- what is left of a list from a place on
drop_at : {A : Type 0} (xs : List A) (i : ℕ) (x : A) → i < length xs → x ≡ get_or xs i x → drop i xs ≡ x ∷ drop (suc i) xs
drop_at [] i x inside is = absurd (omega (arith, inside))
drop_at (y ∷ ys) zero x inside is = ap (λ z. z ∷ ys) (sym is)
drop_at (y ∷ ys) (suc i) x inside is = drop_at ys i x (omega (arith, inside)) is

drop_past : {A : Type 0} (xs : List A) (i : ℕ) → length xs ≤ i → drop i xs ≡ []
drop_past [] zero past = refl
drop_past [] (suc i) past = refl
drop_past (y ∷ ys) zero past = absurd (omega (arith, past))
drop_past (y ∷ ys) (suc i) past = drop_past ys i (omega (arith, past))

-- WHAT IS WAITED FOR AT AN `await`

-- the wait at a place in the code is that of the text
wait_there : (class : Class) (code : ClassCode) (at number : ℕ) (alts : List Alt) (timed : Bool) (label : Option ℕ) → code.waits ≡ waits_of class (norm_class class).flags → HasInstr code.code at (op.Yield number)
    → IsNumbered class number (AtAwait (ways_of alts) timed label) → (own : Wait) × (wait_at code at ≡ Some own) × IsWait class own alts timed label
wait_there class code at number alts timed label waits here numbered =
    let (own, stands, is) = await_waits class number alts timed label numbered in
    (own, ap (λ i. wait_behind code i) here ∙ ap (λ ws. slice_get ws number) waits ∙ stands, is)

-- so is its label
pub label_there : (class : Class) (code : ClassCode) (at number : ℕ) (loops : List (List Val)) → code.waits ≡ waits_of class (norm_class class).flags → HasInstr code.code at (op.Yield number)
    → (todo : List Task) → IsPoint code.code class number loops todo → label_of (wait_at code at) ≡ label_before todo
label_there class code at number loops waits here _ (IsPoint.at_label i rest l entry is there numbered code_for) =
    ap (λ x. label_of (wait_behind code x)) here ∙ ap (λ ws. label_of (slice_get ws number)) waits ∙ ap label_of (label_waits class number l numbered) ∙ sym (ap label_in is)
label_there class code at number loops waits here _ (IsPoint.at_await i rest alts timeout label entries is there numbered each) =
    let (own, stands, same) = wait_there class code at number alts (is_some timeout) label waits here numbered in
    ap label_of stands ∙ same.label_is ∙ sym (ap label_in is)

-- so is each alternative, if it is there
alternative_there : (class : Class) (code : ClassCode) (at : ℕ) (own : Wait) (alts : List Alt) (timed : Bool) (label : Option ℕ) → wait_at code at ≡ Some own → IsWait class own alts timed label
    → (n : ℕ) → Together (IsAlternative class) (alternative_at code at (suc n)) (slice_get alts n)
alternative_there class code at own alts timed label stands is n =
    subst (λ o. Together (IsAlternative class) o (slice_get alts n)) (sym (ap (λ o. alternative_of o n) stands))
    (zipped_at (IsAlternative class) own.alternatives alts is.alternatives n)

-- after the last one there is none
no_further : (class : Class) (code : ClassCode) (at : ℕ) (own : Wait) (alts : List Alt) (timed : Bool) (label : Option ℕ) → wait_at code at ≡ Some own → IsWait class own alts timed label
    → alternative_at code at (suc (length alts)) ≡ None
no_further class code at own alts timed label stands is =
    none_beside (alternative_at code at (suc (length alts)))
    (subst (Together (IsAlternative class) (alternative_at code at (suc (length alts)))) (get_past alts) (alternative_there class code at own alts timed label stands is (length alts)))
  where
    get_past : (xs : List Alt) → slice_get xs (length xs) ≡ None
    get_past [] = refl
    get_past (x ∷ xs) = get_past xs

    none_beside : (o : Option Alternative) → Together (IsAlternative class) o None → o ≡ None
    none_beside None both = refl
    none_beside (Some x) both = absurd both

-- the flags tell whether some condition holds
flags_hold : (class : Class) (d : Data) (own : List Alternative) (alts : List Alt) → AllZip (IsAlternative class) own alts
    → some_told class d own ≡ list_any (λ x. holds d (out-Alt x).cond []) alts
flags_hold class d [] [] all = refl
flags_hold class d [] (a ∷ alts) all = absurd all
flags_hold class d (x ∷ own) [] all = absurd all
flags_hold class d (x ∷ own) (a ∷ alts) all =
    ap (λ b. b || some_told class d own) (all.0.row d) ∙ ap (λ b. holds d (out-Alt a).cond [] || b) (flags_hold class d own alts all.1)

-- whether some flag has a row, one alternative after the other
pub next_untold : (class : Class) (d : Data) (all : List Alternative) (i : ℕ) (x : Alternative) → i < length all → x ≡ get_or all i x → false ≡ has_row (node_rows d (norm_class class).nodes x.flag)
    → some_told class d (drop i all) ≡ some_told class d all → some_told class d (drop (i + 1) all) ≡ some_told class d all
next_untold class d all i x inside is none so_far =
    let next : suc i ≡ i + 1 = omega arith in
    subst (λ k. some_told class d (drop k all) ≡ some_told class d all) next
    (ap (λ b. b || some_told class d (drop (suc i) all)) none ∙ sym (ap (some_told class d) (drop_at all i x inside is)) ∙ so_far)

pub one_told : (class : Class) (d : Data) (all : List Alternative) (i : ℕ) (x : Alternative) → i < length all → x ≡ get_or all i x → true ≡ has_row (node_rows d (norm_class class).nodes x.flag)
    → some_told class d (drop i all) ≡ some_told class d all → true ≡ some_told class d all
one_told class d all i x inside is told so_far =
    ap (λ b. b || some_told class d (drop (suc i) all)) told ∙ sym (ap (some_told class d) (drop_at all i x inside is)) ∙ so_far

pub none_told : (class : Class) (d : Data) (all : List Alternative) (i : ℕ) → length all ≤ i → some_told class d (drop i all) ≡ some_told class d all → false ≡ some_told class d all
none_told class d all i past so_far = sym (ap (some_told class d) (drop_past all i past)) ∙ so_far

-- where the move of a number goes on at an `await`, by the flag of its alternative
module _ (class : Class) (d : Data) (code : ClassCode) (at k n : ℕ) (x : Alternative) (next : k ≡ suc n) (there : Some x ≡ alternative_at code at k)
    (b : Bool) (told : b ≡ has_row (node_rows d (norm_class class).nodes x.flag)) where
  by_its_flag : begin_at_await class d code at k ≡ if_flag (Some b) (behind_turn (entry_after code.code at n))
  by_its_flag = ap (begin_at_await class d code at) next
      ∙ ap (λ o. if_flag (flag_told class d o) (behind_turn (entry_after code.code at n))) (sym (there ∙ ap (alternative_at code at) next))
      ∙ ap (λ f. if_flag (Some f) (behind_turn (entry_after code.code at n))) (sym told)

  pub flag_goes : b ≡ true → (found : Option Begin) → found ≡ behind_turn (entry_after code.code at n) → found ≡ begin_at_await class d code at k
  flag_goes is found goes = goes ∙ sym (by_its_flag ∙ ap (λ f. if_flag (Some f) (behind_turn (entry_after code.code at n))) is)

  pub flag_stays : b ≡ false → None ≡ begin_at_await class d code at k
  flag_stays is = sym (by_its_flag ∙ ap (λ f. if_flag (Some f) (behind_turn (entry_after code.code at n))) is)

-- where a timeout goes on, by the test of what is waited for
module _ (class : Class) (d : Data) (code : ClassCode) (at count : ℕ) (own : Wait) (there : Some own ≡ wait_at code at) (told late : Bool)
    (told_is : told ≡ some_told class d own.alternatives) (late_is : late ≡ (own.has_timeout && not told)) where
  late_so : late ≡ may_time_out class d (wait_at code at)
  late_so = late_is ∙ ap (λ b. own.has_timeout && not b) told_is ∙ ap (may_time_out class d) there

  by_late : timeout_at class d code at count ≡ (if late then behind_turn (entry_after code.code at count) else None)
  by_late = ap (λ b. if b then behind_turn (entry_after code.code at count) else None) (sym late_so)

  pub timeout_goes : late ≡ true → (found : Option Begin) → found ≡ behind_turn (entry_after code.code at count) → found ≡ timeout_at class d code at count
  timeout_goes is found goes = goes ∙ sym (by_late ∙ ap (λ b. if b then behind_turn (entry_after code.code at count) else None) is)

  pub timeout_stays : late ≡ false → None ≡ timeout_at class d code at count
  timeout_stays is = sym (by_late ∙ ap (λ b. if b then behind_turn (entry_after code.code at count) else None) is)

-- its flag tells whether its condition holds
flag_holds : (class : Class) (d : Data) (own : Option Alternative) (a : Option Alt) → Together (IsAlternative class) own a
    → flag_told class d own ≡ option_map (λ x. holds d (out-Alt x).cond []) a
flag_holds class d None None both = refl
flag_holds class d None (Some a) both = absurd both
flag_holds class d (Some x) None both = absurd both
flag_holds class d (Some x) (Some a) both = ap Some (both.row d)

-- it binds what the alternative of the text binds
bound_as : (class : Class) (d : Data) (own : Option Alternative) (a : Alt) → Together (IsAlternative class) own (Some a)
    → bind_found class.queries (out-Alt a).found (out-Alt a).binds d ≡ bound_by class own d
bound_as class d None a both = absurd both
bound_as class d (Some x) a both =
    sym (ap (λ found. bind_found class.queries found (out-Alt a).binds d) both.found) ∙ sym (ap (λ binds. bind_found class.queries x.found binds d) both.binds)

alternative_binds : (class : Class) (code : ClassCode) (at : ℕ) (own : Wait) (alts : List Alt) (timed : Bool) (label : Option ℕ) → wait_at code at ≡ Some own → IsWait class own alts timed label
    → (n : ℕ) (a : Alt) → slice_get alts n ≡ Some a → (d : Data) → bind_found class.queries (out-Alt a).found (out-Alt a).binds d ≡ bound_by class (alternative_at code at (suc n)) d
alternative_binds class code at own alts timed label stands is n a there d =
    bound_as class d (alternative_at code at (suc n)) a
    (subst (Together (IsAlternative class) (alternative_at code at (suc n))) there (alternative_there class code at own alts timed label stands is n))

-- A MOVE OF A CORE

module _ (core : Core) (w : World) (s : StandsFor core w) where
  abbrev p : Program
  p = program_of core

  abbrev d : Data
  d = w.data'

  abbrev m : Machine
  m = core.machine

  code_for_class : (place : ℕ) × IsCodeFor p place s.class s.code
  code_for_class = is_code core.compiled.now s.class s.code s.compiled d.me s.knows.is_class s.code_is

  may : (k : ℕ) (begin : Begin) (after : Data) (todo : List Task) → after ≡ bound_by s.class (alternative_at s.code m.place k) d → after.me ≡ d.me → ShapedData p s.class after → begin.turns ≤ 1
      → ShapedTasks p s.class d.me todo → CodeFor s.code.code s.class begin.entry m.loops todo → MayRun p s.class s.code core.known m k begin after todo
  may k begin after todo bound mine knows early tasks code_for = record {
    accepted = s.compiled.accepted;
    forward = code_for_class.1.code.forward;
    waits = code_for_class.1.waits;
    before = d;
    stands = s.stands;
    bound = bound;
    knows = knows;
    tasks = subst (λ me. ShapedTasks p s.class me todo) (sym mine) tasks;
    code_for = code_for;
    early = early;
  }

  -- what the start of a step is that is told with this number, where there is one
  abbrev pub StartsIn : Step → ClassCode → ℕ → Option Begin → Type 0
  StartsIn step code k found = MatchOption found (proc_step p w step ≡ None) (λ begin. CanMove core w step k code begin)

  abbrev pub IsBeginIn : ClassCode → ℕ → Option Begin → Type 0
  IsBeginIn code k = StartsIn (move_step k) code k

  abbrev pub IsBegin : ℕ → Option Begin → Type 0
  IsBegin = IsBeginIn s.code

  abbrev pub IsTimeout : ℕ → Option Begin → Type 0
  IsTimeout count = StartsIn TimeOut s.code (suc count)

  begins_new : w.phase ≡ New → CodeFor s.code.code s.class m.place m.loops (first_tasks p s.class d.me) → IsBegin 0 (Some (record { entry = m.place; turns = 0 }))
  begins_new new at = record {
    place = code_for_class.0;
    class = s.class;
    d = d;
    todo = first_tasks p s.class d.me;
    code_is = s.code_is;
    is = code_for_class.1;
    mine = refl;
    leads = step_begins p s.class w s.knows.is_class new;
    may = may 0 (record { entry = m.place; turns = 0 }) d (first_tasks p s.class d.me) refl refl s.knows (omega arith) (first_shaped p s.class d.me) at;
  }

  begins_at_label : w.phase ≡ Waiting → IsLabelled w.todo → IsWaiting s.class s.code.code m w.todo → IsBegin 0 (behind_turn (entry_after s.code.code m.place 0))
  begins_at_label waits (l, begins) at =
      let (entry, there, code_for) = label_entry s.code.code s.class at.number m.loops w.todo (at_point s.code.code s.class m.place m.loops w.todo at.code_for at.number at.there) begins.item begins.rest l begins.first begins.is in
      let goes : entry_after s.code.code m.place 0 ≡ Some entry = entry_is s.code.code m.place at.number 0 entry (record { label = true; entries = entry ∷ [] }) at.there there refl in
      let start : Begin = record { entry = entry; turns = 1 } in
      let can : CanMove core w (move_step 0) 0 s.code start = record {
        place = code_for_class.0;
        class = s.class;
        d = d;
        todo = begins.rest;
        code_is = s.code_is;
        is = code_for_class.1;
        mine = refl;
        leads = step_at_label p s.class w s.knows.is_class begins.item begins.rest l waits begins.first begins.is;
        may = may 0 start d begins.rest refl refl s.knows (omega arith) (rest_shaped p s.class d.me begins.item w.todo begins.rest begins.first s.tasks) code_for;
      } in
      subst (λ found. IsBegin 0 (behind_turn found)) (sym goes) can

  module _ (waits : w.phase ≡ Waiting) (alts : List Alt) (timeout : Option (List Item)) (label : Option ℕ) (b : BeginsWith w.todo (kind.Await alts timeout label))
      (at : IsWaiting s.class s.code.code m w.todo) where
    abbrev count : ℕ
    count = length alts

    abbrev holds_now : Alt → Bool
    holds_now a = holds d (out-Alt a).cond []

    stands_here : AwaitPoint s.code.code s.class at.number m.loops b.rest alts timeout label
    stands_here = await_point s.code.code s.class at.number m.loops w.todo (at_point s.code.code s.class m.place m.loops w.todo at.code_for at.number at.there) b.item b.rest alts timeout label b.first b.is

    waits_here : (own : Wait) × (wait_at s.code m.place ≡ Some own) × IsWait s.class own alts (is_some timeout) label
    waits_here = wait_there s.class s.code m.place at.number alts (is_some timeout) label code_for_class.1.waits at.there stands_here.numbered

    abbrev told_at : ℕ → Option Bool
    told_at n = flag_told s.class d (alternative_at s.code m.place (suc n))

    pub flag_is : (n : ℕ) → told_at n ≡ option_map holds_now (slice_get alts n)
    flag_is n =
        let (own, stands, is) = waits_here in
        flag_holds s.class d (alternative_at s.code m.place (suc n)) (slice_get alts n)
        (alternative_there s.class s.code m.place own alts (is_some timeout) label stands is n)

    -- the entry of a block of the `await`
    entry_of_block : (n : ℕ) (body : List Item) → slice_get (blocks_in (kind.Await alts timeout label)) n ≡ Some body
        → (entry : ℕ) × (entry_after s.code.code m.place n ≡ Some entry) × CodeFor s.code.code s.class entry m.loops (do_all body b.rest)
    entry_of_block n body there =
        let point = stands_here in
        let (entry, stands, code_for) = point.each.stands n body there in
        (entry, entry_is s.code.code m.place at.number n entry (record { label = false; entries = point.entries }) at.there point.there stands, code_for)

    no_alternative : (n : ℕ) → slice_get alts n ≡ None → proc_step p w (move_step (suc n)) ≡ None
    no_alternative n none = rw (s.knows.is_class, waits, b.first, b.is, none) refl

    not_now : (n : ℕ) (a : Alt) → slice_get alts n ≡ Some a → holds_now a ≡ false → proc_step p w (move_step (suc n)) ≡ None
    not_now n a there false' = rw (s.knows.is_class, waits, b.first, b.is, there, false') refl

    abbrev bound_of : Alt → Data
    bound_of a = bind_found s.class.queries (out-Alt a).found (out-Alt a).binds d

    -- the row fits the slots
    bound_shaped : (n : ℕ) (a : Alt) → slice_get alts n ≡ Some a → ShapedData p s.class (bound_of a) × ((bound_of a).me ≡ d.me)
    bound_shaped n a there =
        let stands = item_shaped p s.class d.me b.item w.todo b.rest b.first s.tasks in
        found_bound p s.class (out-Alt a).found (out-Alt a).binds d s.knows
        (λ query row finds found. alt_row_fits p s.class d (is_whole p s.compiled.accepted) s.knows b.item stands alts a query row b.is (has_at alts n a there) finds found)

    takes : (n : ℕ) (a : Alt) → slice_get alts n ≡ Some a → holds_now a ≡ true → IsBegin (suc n) (behind_turn (entry_after s.code.code m.place n))
    takes n a there true' =
        let (entry, goes, code_for) = entry_of_block n (out-Alt a).body (alt_body_at alts (option_to_list timeout) n a there) in
        let (own, stands, is) = waits_here in
        let start : Begin = record { entry = entry; turns = 1 } in
        let tasks : ShapedTasks p s.class d.me (do_all (out-Alt a).body b.rest) = alt_shaped p s.class d.me b.item w.todo b.rest b.first s.tasks alts timeout label a n b.is there in
        let row = bound_shaped n a there in
        let binds : bound_of a ≡ bound_by s.class (alternative_at s.code m.place (suc n)) d = alternative_binds s.class s.code m.place own alts (is_some timeout) label stands is n a there d in
        let can : CanMove core w (move_step (suc n)) (suc n) s.code start = record {
          place = code_for_class.0;
          class = s.class;
          d = bound_of a;
          todo = do_all (out-Alt a).body b.rest;
          code_is = s.code_is;
          is = code_for_class.1;
          mine = row.1;
          leads = step_at_await p s.class w s.knows.is_class b.item b.rest alts timeout label a (suc n) waits b.first b.is there true';
          may = may (suc n) start (bound_of a) (do_all (out-Alt a).body b.rest) binds row.1 row.0 (omega arith) tasks code_for;
        } in
        subst (λ found. IsBegin (suc n) (behind_turn found)) (sym goes) can

    by_flag : (n : ℕ) (a : Alt) (flag : Bool) → slice_get alts n ≡ Some a → holds_now a ≡ flag → IsBegin (suc n) (if_flag (Some flag) (behind_turn (entry_after s.code.code m.place n)))
    by_flag n a true there is = takes n a there is
    by_flag n a false there is = not_now n a there is

    by_alternative : (n : ℕ) (found : Option Alt) → slice_get alts n ≡ found
        → IsBegin (suc n) (if_flag (option_map holds_now found) (behind_turn (entry_after s.code.code m.place n)))
    by_alternative n None there = no_alternative n there
    by_alternative n (Some a) there = by_flag n a (holds_now a) there refl

    begins_at_await : (n : ℕ) → IsBegin (suc n) (if_flag (told_at n) (behind_turn (entry_after s.code.code m.place n)))
    begins_at_await n =
        subst (λ flag. IsBegin (suc n) (if_flag flag (behind_turn (entry_after s.code.code m.place n)))) (sym (flag_is n)) (by_alternative n (slice_get alts n) refl)

    none_at_await : proc_step p w (move_step 0) ≡ None
    none_at_await = rw (s.knows.is_class, waits, b.first, b.is) refl

    -- the time runs out where no alternative may be taken
    runs_out : (body : List Item) → timeout ≡ Some body → list_any holds_now alts ≡ false → IsTimeout count (behind_turn (entry_after s.code.code m.place count))
    runs_out body timed none' =
        let late : kind_of b.item ≡ kind.Await alts (Some body) label = b.is ∙ ap (λ t. kind.Await alts t label) timed in
        let last : slice_get (blocks_in (kind.Await alts timeout label)) count ≡ Some body =
        ap (λ t. slice_get (blocks_in (kind.Await alts t label)) count) timed ∙ timeout_body_at alts body in
        let (entry, goes, code_for) = entry_of_block count body last in
        let (own, stands, is) = waits_here in
        let start : Begin = record { entry = entry; turns = 1 } in
        let next : length alts + 1 ≡ suc count = omega arith in
        let unbound : alternative_at s.code m.place (suc count) ≡ None = no_further s.class s.code m.place own alts (is_some timeout) label stands is in
        let can : CanMove core w TimeOut (suc count) s.code start = record {
          place = code_for_class.0;
          class = s.class;
          d = d;
          todo = do_all body b.rest;
          code_is = s.code_is;
          is = code_for_class.1;
          mine = refl;
          leads = step_times_out p s.class w s.knows.is_class b.item b.rest alts body label waits b.first late none'
              ∙ ap (λ k. Some (moved d.me k (run_to_yield s.class 1 d (do_all body b.rest)))) next;
          may = may (suc count) start d (do_all body b.rest) (sym (ap (λ a. bound_by s.class a d) unbound)) refl s.knows (omega arith)
              (timeout_shaped p s.class d.me b.item w.todo b.rest b.first s.tasks alts body label late) code_for;
        } in
        subst (λ found. IsTimeout count (behind_turn found)) (sym goes) can

    timeout_by : (late : Option (List Item)) (some : Bool) → timeout ≡ late → list_any holds_now alts ≡ some
        → IsTimeout count (if is_some late && not some then behind_turn (entry_after s.code.code m.place count) else None)
    timeout_by None some timed is = rw (s.knows.is_class, waits, b.first, b.is, timed) refl
    timeout_by (Some body) true timed is = rw (s.knows.is_class, waits, b.first, b.is, timed, is) refl
    timeout_by (Some body) false timed is = runs_out body timed is

    timeout_at_await : IsTimeout count (timeout_at s.class d s.code m.place count)
    timeout_at_await =
        let (own, stands, is) = waits_here in
        let same : may_time_out s.class d (wait_at s.code m.place) ≡ (is_some timeout && not (list_any holds_now alts)) =
        ap (may_time_out s.class d) stands ∙ ap (λ b. b && not (some_told s.class d own.alternatives)) is.timed_is
        ∙ ap (λ b. is_some timeout && not b) (flags_hold s.class d own.alternatives alts is.alternatives) in
        subst (λ b. IsTimeout count (if b then behind_turn (entry_after s.code.code m.place count) else None)) (sym same)
        (timeout_by timeout (list_any holds_now alts) refl refl)

  begins_by : (place : Place) (phase : Phase) (k : ℕ) → w.phase ≡ phase → IsPlace w.todo place phase → IsAt p s.class s.code.code m w phase
      → IsBegin k (begin_at s.class d s.code m.place place k)
  begins_by place.New New zero is stands at = begins_new is at
  begins_by place.New New (suc k) is stands at = rw (s.knows.is_class, is) refl
  begins_by place.Label Waiting zero is stands at = begins_at_label is stands at
  begins_by place.Label Waiting (suc k) is (l, stands) at = rw (s.knows.is_class, is, stands.first, stands.is) refl
  begins_by (place.Await count) Waiting zero is stands at = none_at_await is stands.alts stands.timeout stands.label stands.begins at
  begins_by (place.Await count) Waiting (suc k) is stands at = begins_at_await is stands.alts stands.timeout stands.label stands.begins at k
  begins_by place.Ended Ended zero is stands at = rw (s.knows.is_class, is) refl
  begins_by place.Ended Ended (suc k) is stands at = rw (s.knows.is_class, is) refl
  begins_by place.Faulted Faulted zero is stands at = rw (s.knows.is_class, is) refl
  begins_by place.Faulted Faulted (suc k) is stands at = rw (s.knows.is_class, is) refl
  begins_by _ _ k is stands at = absurd stands

  -- where the move of a number goes on, and that it is not allowed where it goes on nowhere
  pub begins : (k : ℕ) → IsBegin k (begin_at s.class d s.code m.place core.place k)
  begins k = begins_by core.place w.phase k refl s.place s.at

  -- the time runs out at an `await` alone
  no_timeout : (spot : Place) (phase : Phase) → w.phase ≡ phase → IsPlace w.todo spot phase → ((n : ℕ) → spot ≡ place.Await n → ⊥) → proc_step p w TimeOut ≡ None
  no_timeout place.New New is stands other = rw (s.knows.is_class, is) refl
  no_timeout place.Label Waiting is (l, stands) other = rw (s.knows.is_class, is, stands.first, stands.is) refl
  no_timeout (place.Await n) Waiting is stands other = absurd (other n refl)
  no_timeout place.Ended Ended is stands other = rw (s.knows.is_class, is) refl
  no_timeout place.Faulted Faulted is stands other = rw (s.knows.is_class, is) refl
  no_timeout _ _ is stands other = absurd stands

  pub timeout_nowhere : ((n : ℕ) → core.place ≡ place.Await n → ⊥) → proc_step p w TimeOut ≡ None
  timeout_nowhere other = no_timeout core.place w.phase refl s.place other

  timeout_there : (spot : Place) (phase : Phase) (n : ℕ) → w.phase ≡ phase → spot ≡ place.Await n → IsPlace w.todo spot phase → IsAt p s.class s.code.code m w phase
      → (n < last_number) × IsTimeout n (timeout_at s.class d s.code m.place n)
  timeout_there (place.Await other) Waiting n is same stands at =
      let those : other ≡ n = cc in
      let awaits = subst (Awaits w.todo) those stands in
      (awaits.few, subst (λ k. IsTimeout k (timeout_at s.class d s.code m.place k)) awaits.size (timeout_at_await is awaits.alts awaits.timeout awaits.label awaits.begins at))
  timeout_there place.New _ n is same stands at = absurd (cc)
  timeout_there place.Label _ n is same stands at = absurd (cc)
  timeout_there place.Ended _ n is same stands at = absurd (cc)
  timeout_there place.Faulted _ n is same stands at = absurd (cc)
  timeout_there (place.Await other) _ n is same stands at = absurd stands

  timeout_in_place : (n : ℕ) → core.place ≡ place.Await n → (n < last_number) × IsTimeout n (timeout_at s.class d s.code m.place n)
  timeout_in_place n is = timeout_there core.place w.phase n refl is s.place s.at

  -- its number has 32 bits
  pub timeout_few : (n : ℕ) → core.place ≡ place.Await n → n < last_number
  timeout_few n is = (timeout_in_place n is).0

  pub coded : code_of core.compiled.now core.known.answers.me ≡ Some s.code
  coded = ap (code_of core.compiled.now) (sym (me_is core.known p s.class d s.stands)) ∙ s.code_is

  same_code : (code : ClassCode) → code_of core.compiled.now core.known.answers.me ≡ Some code → s.code ≡ code
  same_code code is = let both : ◌≡◌ {A = Option ClassCode} (Some s.code) (Some code) = sym coded ∙ is in cc

  pub begin_found : (code : ClassCode) → code_of core.compiled.now core.known.answers.me ≡ Some code → (k : ℕ) (found : Option Begin)
      → Each core.known (λ q class e. found ≡ begin_at class e code m.place core.place k) → IsBeginIn code k found
  begin_found code is k found same =
      let by_code : (other : ClassCode) → s.code ≡ other → found ≡ begin_at s.class d other m.place core.place k → IsBeginIn other k found =
      λ other is_that that. subst (λ (x : ClassCode). found ≡ begin_at s.class d x m.place core.place k → IsBeginIn x k found) is_that (λ e. subst (IsBegin k) (sym e) (begins k)) that in
      by_code code (same_code code is) (same p s.class d s.stands)

  -- where a timeout goes on, and that it is not allowed where it goes on nowhere
  pub timeout_found : (code : ClassCode) → code_of core.compiled.now core.known.answers.me ≡ Some code → (n : ℕ) → core.place ≡ place.Await n → (k : ℕ) → k ≡ n + 1 → (found : Option Begin)
      → Each core.known (λ q class e. found ≡ timeout_at class e code m.place n) → StartsIn TimeOut code k found
  timeout_found code is n stands k next found same =
      let by_code : (other : ClassCode) → s.code ≡ other → found ≡ timeout_at s.class d other m.place n → StartsIn TimeOut other (suc n) found =
      λ other is_that that. subst (λ (x : ClassCode). found ≡ timeout_at s.class d x m.place n → StartsIn TimeOut x (suc n) found) is_that
      (λ e. subst (IsTimeout n) (sym e) (timeout_in_place n stands).1) that in
      let number : suc n ≡ k = omega (arith, next) in
      subst (λ x. StartsIn TimeOut code x found) number (by_code code (same_code code is) (same p s.class d s.stands))

  pub no_code : None ≡ code_of core.compiled.now core.known.answers.me → ⊥
  no_code none = let both : ◌≡◌ {A = Option ClassCode} None (Some s.code) = none ∙ coded in cc

  -- THE CONDITION OF AN ALTERNATIVE
  module _ (waits : w.phase ≡ Waiting) (alts : List Alt) (timeout : Option (List Item)) (label : Option ℕ) (begun : BeginsWith w.todo (kind.Await alts timeout label))
      (n : ℕ) (a : Alt) (there : slice_get alts n ≡ Some a) where
    told_there : flag_told s.class d (alternative_at s.code m.place (suc n)) ≡ Some (holds d (out-Alt a).cond [])
    told_there =
        flag_is waits alts timeout label begun (subst (IsAt p s.class s.code.code m w) waits s.at) n
        ∙ ap (option_map (λ x. holds d (out-Alt x).cond [])) there

    -- whether its flag has a row
    pub flag_tells : (x : Alternative) (k : ℕ) (b : Bool) → k ≡ n + 1 → Some x ≡ alternative_at s.code m.place k
        → Each core.known (λ q class e. b ≡ has_row (node_rows e (norm_class class).nodes x.flag)) → b ≡ holds d (out-Alt a).cond []
    flag_tells x k b is found told =
        let next : k ≡ suc n = omega (arith, is) in
        let both : ◌≡◌ {A = Option Bool} (Some (has_row (node_rows d (norm_class s.class).nodes x.flag))) (Some (holds d (out-Alt a).cond [])) =
        ap (flag_told s.class d) (found ∙ ap (alternative_at s.code m.place) next) ∙ told_there in
        let same : has_row (node_rows d (norm_class s.class).nodes x.flag) ≡ holds d (out-Alt a).cond [] = cc in
        told p s.class d s.stands ∙ same

    -- it has one
    pub has_flag : (k : ℕ) → k ≡ n + 1 → None ≡ alternative_at s.code m.place k → ⊥
    has_flag k is none =
        let next : k ≡ suc n = omega (arith, is) in
        let both : ◌≡◌ {A = Option Bool} None (Some (holds d (out-Alt a).cond [])) = ap (flag_told s.class d) (none ∙ ap (alternative_at s.code m.place) next) ∙ told_there in
        cc
