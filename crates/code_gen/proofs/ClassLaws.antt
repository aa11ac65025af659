-- The code of a class, from its openings, `run` and its handlers.
use Rattle.std.proofs.Common.{◌≡◌, ℕ, zero, suc, ◌+◌, ◌^◌, ◌<◌, Bool, true, false, List, [], ◌∷◌, ◌++◌, length, map, Option, Some, None, refl, sym, ap, ◌∙◌, subst, arith, inl, append_assoc, length-append}
use Rattle.std.specs.Prelude.{◌==◌, flat_map, if◌then◌else◌, option_map, slice_get}
use Rattle.std.specs.List.{AllByRecursion}
use Rattle.std.proofs.lemmas.Option.{slice_get-map}
use Rattle.std.proofs.lemmas.List.{length-map}
use Rattle.da_values.specs.declared.val.Val.{Val}
use Rattle.da_lang.specs.declared.code.Instr.TheVariants as op
use Rattle.da_lang.specs.declared.program.Alt.{Alt}
use Rattle.da_lang.specs.declared.program.Class.{Class}
use Rattle.da_lang.specs.declared.program.Handler.{Handler}
use Rattle.da_lang.specs.declared.program.Item.{Item}
use Rattle.da_lang.specs.declared.program.ItemKind.{ItemKind}
use Rattle.da_lang.specs.declared.program.ItemKind.TheOpen.{ItemKind-F}
use Rattle.da_lang.specs.declared.program.ProcDecl.{ProcDecl}
use Rattle.da_lang.specs.declared.program.Program.{Program}
use Rattle.da_lang.specs.declared.program.RBranch.{RBranch}
use Rattle.da_lang.specs.declared.program.SetupCall.{SetupCall}
use Rattle.da_lang.specs.Runs.{kind_yields}
use Rattle.da_lang.specs.Steps.{preparing, setup_of_decl}
use Rattle.da_lang.specs.Turns.{do_all, kind_of, line_of}
use Rattle.da_lang.specs.World.{Task, Do, Loop, Prepare, at_number}
use Rattle.da_machine.specs.declared.code.Code.{Code}
use Rattle.da_machine.specs.CodeFor.{Has, CodeFor, ItemAt, WorkAt}
use Rattle.da_machine.specs.Entries.{IsPoint}
use Rattle.da_machine.specs.Points.{IsNumbered, Points, class_points}
use Rattle.da_machine.proofs.EntryLaws.{at_point}
use Rattle.da_machine.proofs.ForwardLaws.{Onward, at_one, and_one, block_on, both_on, enter_on, nowhere, whole_forward}
use Rattle.da_machine.proofs.TurnCode.{block_for}
use Rattle.code_gen.specs.ClassCode.{IsCodeOf, handler_tasks, numbered_from, processes_of}
use Rattle.code_gen.specs.Made.{AreNumbered, Grown, MadeBlock, MadeHandlers, MadeSetups, added, block_points, end_of, filled, handler_points}
use Rattle.code_gen.specs.Open.{HandlersAt, OpenSetups, SetupAt, own_setups}
use Rattle.code_gen.proofs.ClassCode.{setup_holes}
use Rattle.code_gen.proofs.Growing.{fill_end, fill_grown, fill_has, fill_keeps, grown_on, holes_may_be, none_then, put_end, put_grown, put_has, stays_has, then_none}
use Rattle.code_gen.proofs.Kept.{Keeps, grown_keeps, keeps_on, kept_block, kept_enter}
use Rattle.code_gen.proofs.Lists.{one_longer, where_joined}
use Rattle.code_gen.proofs.PointCode.{all_still}
use Rattle.code_gen.proofs.PointLaws.{front_numbers, rest_numbers}

-- YIELD POINTS

works_at_no_yield : (code : Code) (class : Class) (at line : ℕ) (k : ItemKind-F ItemKind Alt Item RBranch) (end : ℕ) → WorkAt code class at line k end → kind_yields k ≡ false
works_at_no_yield code class _ _ _ _ (WorkAt.assign x h) = refl
works_at_no_yield code class _ _ _ _ (WorkAt.add x h) = refl
works_at_no_yield code class _ _ _ _ (WorkAt.del x h) = refl
works_at_no_yield code class _ _ _ _ (WorkAt.send x y h) = refl
works_at_no_yield code class _ _ _ _ (WorkAt.output x h) = refl
works_at_no_yield code class _ _ _ _ (WorkAt.choice x) = refl
works_at_no_yield code class _ _ _ _ (WorkAt.while x h y j) = refl
works_at_no_yield code class _ _ _ _ (WorkAt.for x h y) = refl
works_at_no_yield code class _ _ _ _ (WorkAt.call x) = refl
works_at_no_yield code class _ _ _ _ WorkAt.pass = refl

module _ (code : Code) (class : Class) where
  -- code for a statement that yields stands at a yield point
  item_yields : (at : ℕ) (i : Item) (end : ℕ) → ItemAt code class at i end → kind_yields (kind_of i) ≡ true → (k : ℕ) × Has code at (op.Yield k)
  item_yields _ _ _ (ItemAt.works {at} {end} {i} h work) yields = let no = works_at_no_yield code class at (line_of i) (kind_of i) end work in absurd (let bad : true ≡ false = sym yields ∙ no in cc)
  item_yields _ _ _ (ItemAt.label {at} {k} is h y n) yields = (k, h)
  item_yields _ _ _ (ItemAt.await {at} {end} {k} is h y n x) yields = (k, h)

  pub point_of : (at : ℕ) (loops : List (List Val)) (i : Item) (todo all : List Task) → all ≡ Do i ∷ todo → CodeFor code class at loops all → kind_yields (kind_of i) ≡ true → (k : ℕ) × IsPoint code class k loops all
  point_of _ _ i todo _ is (CodeFor.ends {at} h) yields = absurd (let bad : ◌≡◌ {A = List Task} [] (Do i ∷ todo) = is in cc)
  point_of _ _ i todo _ is (CodeFor.jumps {at} {to} {loops} {todo = all} h code_for) yields = point_of to loops i todo all is code_for yields
  point_of _ _ i todo _ is (CodeFor.does {at} {to} {loops} {i = j} {todo = rest} x code_for) yields =
      let heads : ◌≡◌ {A = List Task} (Do j ∷ rest) (Do i ∷ todo) = is in
      let same : j ≡ i = cc in
      let y = item_yields at j to x (ap (λ z. kind_yields (kind_of z)) same ∙ yields) in
      (y.0, at_point code class at loops (Do j ∷ rest) (CodeFor.does x code_for) y.0 y.1)
  point_of _ _ i todo _ is (CodeFor.loops {at} {to} {s} {line} {outer} {left} {body} {todo = rest} x code_for) yields = absurd (let bad : ◌≡◌ {A = List Task} (Loop s left body line ∷ rest) (Do i ∷ todo) = is in cc)
  point_of _ _ i todo _ is (CodeFor.prepares {at} {to} {loops} {call} {todo = rest} h x code_for) yields = absurd (let bad : ◌≡◌ {A = List Task} (Prepare call ∷ rest) (Do i ∷ todo) = is in cc)

  -- OPENINGS

  pub start_stands : (run : ℕ) (todo : List Task) → CodeFor code class run [] todo → (b : Code) → Keeps b code → (at : ℕ) (ss : List (Option SetupCall)) (end : ℕ) (es ls : List ℕ) → OpenSetups b class at ss end es ls
      → AllByRecursion (λ leave. Has code leave (op.Jump run)) ls → (k : ℕ) (s : Option SetupCall) (entry : ℕ) → slice_get ss k ≡ Some s → slice_get es k ≡ Some entry → CodeFor code class entry [] (preparing s ++ todo)
  start_stands run todo goes b keeps _ _ _ _ _ OpenSetups.none all k s entry is there = absurd (let bad : ◌≡◌ {A = Option (Option SetupCall)} None (Some s) = is in cc)
  start_stands run todo goes b keeps _ _ _ _ _ (OpenSetups.opening {at} {end} {last} {s = t} {ss} {entries} {leaves} x h xs) all zero s entry is there =
      let same : t ≡ s = cc in
      let place : at ≡ entry = cc in
      subst (λ n. CodeFor code class n [] (preparing s ++ todo)) place (subst (λ z. CodeFor code class at [] (preparing z ++ todo)) same (begins at t end x (CodeFor.jumps all.0 goes)))
    where
      begins : (at : ℕ) (t : Option SetupCall) (end : ℕ) → SetupAt b class at t end → CodeFor code class end [] todo → CodeFor code class at [] (preparing t ++ todo)
      begins _ _ _ SetupAt.no_setup rest = rest
      begins _ _ _ (SetupAt.setup {at} {end} {call} turn enters) rest = CodeFor.prepares (keeps.instrs at _ refl turn) (kept_enter b code keeps class enters) rest
  start_stands run todo goes b keeps _ _ _ _ _ (OpenSetups.opening {at} {end} {last} {s = t} {ss} {entries} {leaves} x h xs) all (suc k) s entry is there =
      start_stands run todo goes b keeps (end + 1) ss last entries leaves xs all.1 k s entry is there

  setup_onward : (b : Code) → Keeps b code → (at : ℕ) (s : Option SetupCall) (end : ℕ) → SetupAt b class at s end → Onward code at end
  setup_onward b keeps _ _ _ (SetupAt.no_setup {at}) = nowhere code at
  setup_onward b keeps _ _ _ (SetupAt.setup {at} {end} {call} turn enters) =
      both_on code at (at + 1) end (at_one code at _ (keeps.instrs at _ refl turn) tt) (enter_on code class (at + 1) call.args class.params class.setup end (kept_enter b code keeps class enters))

  pub setups_onward : (b : Code) → Keeps b code → (at : ℕ) (ss : List (Option SetupCall)) (run : ℕ) (es ls : List ℕ) → OpenSetups b class at ss run es ls → (to : ℕ) → run ≡ to → AllByRecursion (λ leave. Has code leave (op.Jump to)) ls → Onward code at run
  setups_onward b keeps _ _ _ _ _ (OpenSetups.none {at}) to is all = nowhere code at
  setups_onward b keeps _ _ _ _ _ (OpenSetups.opening {at} {end} {last} {s} {ss} {entries} {leaves} x h xs) to is all =
      let rest = setups_onward b keeps (end + 1) ss last entries leaves xs to is all.1 in
      both_on code at (end + 1) last (and_one code at end _ (setup_onward b keeps at s end x) all.0 (inl (omega (arith, rest.upward, is)))) rest

  -- HANDLERS

  pub handler_stands : (at : ℕ) (hs : List Handler) (end : ℕ) (es : List ℕ) → HandlersAt code class at hs end es → (k : ℕ) (h : Handler) (entry : ℕ) → slice_get hs k ≡ Some h → slice_get es k ≡ Some entry → CodeFor code class entry [] (handler_tasks h)
  handler_stands _ _ _ _ HandlersAt.none k h entry is there = absurd (let bad : ◌≡◌ {A = Option Handler} None (Some h) = is in cc)
  handler_stands _ _ _ _ (HandlersAt.handler {at} {end} {last} {h = g} {hs} {entries} x e xs) zero h entry is there =
      let same : g ≡ h = cc in
      let place : at ≡ entry = cc in
      subst (λ n. CodeFor code class n [] (handler_tasks h)) place (subst (λ z. CodeFor code class at [] (handler_tasks z)) same (block_for class code at g.body end x [] [] (CodeFor.ends e)))
  handler_stands _ _ _ _ (HandlersAt.handler {at} {end} {last} {h = g} {hs} {entries} x e xs) (suc k) h entry is there = handler_stands (end + 1) hs last entries xs k h entry is there

  pub handlers_onward : (at : ℕ) (hs : List Handler) (end : ℕ) (es : List ℕ) → HandlersAt code class at hs end es → Onward code at end
  handlers_onward _ _ _ _ (HandlersAt.none {at}) = nowhere code at
  handlers_onward _ _ _ _ (HandlersAt.handler {at} {end} {last} {h} {hs} {entries} x e xs) = both_on code at (end + 1) last (and_one code at end _ (block_on code class at h.body end x) e tt) (handlers_onward (end + 1) hs last entries xs)

setups_many : (c : Code) (class : Class) (at : ℕ) (ss : List (Option SetupCall)) (end : ℕ) (es ls : List ℕ) → OpenSetups c class at ss end es ls → length es ≡ length ss
setups_many c class _ _ _ _ _ OpenSetups.none = refl
setups_many c class _ _ _ _ _ (OpenSetups.opening {at} {end} {last} {s} {ss} {entries} {leaves} x h xs) = omega (arith, setups_many c class (end + 1) ss last entries leaves xs)

handlers_many : (c : Code) (class : Class) (at : ℕ) (hs : List Handler) (end : ℕ) (es : List ℕ) → HandlersAt c class at hs end es → length es ≡ length hs
handlers_many c class _ _ _ _ HandlersAt.none = refl
handlers_many c class _ _ _ _ (HandlersAt.handler {at} {end} {last} {h} {hs} {entries} x e xs) = omega (arith, handlers_many c class (end + 1) hs last entries xs)

-- PROCESSES

own_case : (f : ℕ → Option SetupCall) (own : Bool) (me : ℕ) (s : Option SetupCall) (ms : List ℕ) (ss : List (Option SetupCall)) → f me ≡ s → map f ms ≡ ss → map f (if own then me ∷ ms else ms) ≡ (if own then s ∷ ss else ss)
own_case f true me s ms ss one others = ap (λ z. z ∷ map f ms) one ∙ ap (λ l. s ∷ l) others
own_case f false me s ms ss one others = others

-- the lines of `setup` of the processes of a class, from all declarations, of which these come last
own_by_number : (all before ds : List ProcDecl) (number : ℕ) → before ++ ds ≡ all → map (λ me. setup_of_decl (at_number all me)) (numbered_from (suc (length before)) number ds) ≡ own_setups number ds
own_by_number all before [] number is = refl
own_by_number all before (d ∷ ds) number is =
    let more : length (before ++ d ∷ []) ≡ suc (length before) = one_longer before d ∙ omega arith in
    let here : setup_of_decl (at_number all (suc (length before))) ≡ d.setup = ap setup_of_decl (ap (λ l. slice_get l (length before)) (sym is) ∙ where_joined before d ds) in
    let others = own_by_number all (before ++ d ∷ []) ds number (append_assoc before (d ∷ []) ds ∙ is) in
    own_case (λ me. setup_of_decl (at_number all me)) (d.class == number) (suc (length before)) d.setup (numbered_from (suc (suc (length before))) number ds) (own_setups number ds) here
    (ap (λ n. map (λ me. setup_of_decl (at_number all me)) (numbered_from (suc n) number ds)) (sym more) ∙ others)

pub setups_by_number : (p : Program) (number : ℕ) → map (λ me. setup_of_decl (at_number p.procs me)) (processes_of p number) ≡ own_setups number p.procs
setups_by_number p number = own_by_number p.procs [] p.procs number refl

same_many : (p : Program) (number : ℕ) → length (processes_of p number) ≡ length (own_setups number p.procs)
same_many p number = sym (length-map (processes_of p number) (λ me. setup_of_decl (at_number p.procs me))) ∙ ap length (setups_by_number p number)

-- THE WHOLE

handlers_again : (f : Code) (starts given : List ℕ) (class : Class) (at : ℕ) (hs : List Handler) (end : ℕ) (es : List ℕ) → HandlersAt f class at hs end es → HandlersAt (record f { starts = starts; handlers = given }) class at hs end es
handlers_again f starts given class _ _ _ _ HandlersAt.none = HandlersAt.none
handlers_again f starts given class _ _ _ _ (HandlersAt.handler {at} {end} {last} {h} {hs} {entries} x e xs) =
    HandlersAt.handler (kept_block f (record f { starts = starts; handlers = given }) (record { instrs = λ at i real has. has; yields = λ k y real has. has }) class x) e (handlers_again f starts given class (end + 1) hs last entries xs)

sum_of_both : (rs hs : Points) → 0 + (length rs + length hs) ≡ length (rs ++ hs)
sum_of_both rs hs = omega (arith, length-append rs hs)

all_points : (class : Class) → length (class_points class) < 2 ^ 32 → AreNumbered class 0 (class_points class)
all_points class few = record { few = few; each = λ n point there. let e : n ≡ 0 + n = omega arith in subst (λ m. IsNumbered class m point) e there }

-- a start; the openings up to b; their jumps; `run` up to d; its end; the handlers up to f; the same code with its entries
is_code : (p : Program) (number : ℕ) (class : Class) (a b c d e f z : Code) (starts leaves places entries : List ℕ) (run : ℕ) → length (class_points class) < 2 ^ 32 → a.instrs ≡ [] → a.yields ≡ [] → MadeSetups a b class (own_setups number p.procs) starts leaves → run ≡ end_of b → places ≡ leaves
    → c ≡ filled b places (op.Jump run) → MadeBlock c d class.run → e ≡ added d op.End → MadeHandlers e f class.handlers entries → z ≡ record f { starts = starts; handlers = entries } → IsCodeOf p number class z
is_code p number class a b c d e f z starts leaves places entries run few no_instrs no_yields openings is_run listed filled_so block is_e bodies is_z =
    let j = op.Jump run in
    let is_c : c ≡ filled b leaves j = filled_so ∙ ap (λ l. filled b l j) listed in
    let rs = block_points class.run in
    let hs = flat_map handler_points class.handlers in
    let begin : end_of a ≡ 0 = ap length no_instrs in
    let may = holes_may_be j b leaves (setup_holes b class (end_of a) (own_setups number p.procs) (end_of b) starts leaves openings.stands) in
    let bc : Keeps b c = subst (Keeps b) (sym is_c) (fill_keeps j b leaves may) in
    let written_c = subst (λ w. AllByRecursion (λ at. Has w at j) leaves) (sym is_c) (fill_has j b leaves may) in
    let end_c : end_of c ≡ end_of b = ap end_of is_c ∙ fill_end j b leaves in
    let ac : Grown a c 0 = subst (λ w. Grown a w 0) (sym is_c) (fill_grown j a b 0 leaves openings.grown openings.behind) in
    let none : length c.yields ≡ 0 = ac.count ∙ ap (λ l. length l + 0) no_yields in
    let de = put_grown d e op.End is_e in
    let ce = then_none c d e (length rs) block.grown de in
    let cf = grown_on c e f (length rs) (length hs) ce bodies.grown in
    let df = none_then d e f (length hs) de bodies.grown in
    let fz : Keeps f z = subst (Keeps f) (sym is_z) (record { instrs = λ at i real has. has; yields = λ k y real has. has }) in
    let end_z : end_of z ≡ end_of f = ap end_of is_z in
    let cz = keeps_on c f z (grown_keeps c f _ cf) fz in
    let dz = keeps_on d f z (grown_keeps d f _ df) fz in
    let bz = keeps_on b c z bc cz in
    let numbered : AreNumbered class (length c.yields) (class_points class) = subst (λ k. AreNumbered class k (class_points class)) (sym none) (all_points class few) in
    let run_c = block.stands class (front_numbers class (length c.yields) rs hs numbered) in
    let run_z = kept_block d z dz class run_c in
    let end_f : Has f (end_of d) op.End = stays_has e f _ (end_of d) op.End bodies.grown (put_has d e op.End is_e) in
    let end_of_run : Has z (end_of d) op.End = subst (λ w. Has w (end_of d) op.End) (sym is_z) end_f in
    let from_e = bodies.stands class (subst (λ k. AreNumbered class k hs) (sym ce.count) (rest_numbers class (length c.yields) rs hs numbered)) in
    let bodies_z = subst (λ w. HandlersAt w class (end_of e) class.handlers (end_of f) entries) (sym is_z) (handlers_again f starts entries class (end_of e) class.handlers (end_of f) entries from_e) in
    let runs : CodeFor z class (end_of c) [] (do_all class.run []) = block_for class z (end_of c) class.run (end_of d) run_z [] [] (CodeFor.ends end_of_run) in
    let at_run : end_of c ≡ run = end_c ∙ sym is_run in
    let goes = subst (λ n. CodeFor z class n [] (do_all class.run [])) at_run runs in
    let written_z = all_still c z j leaves refl cz written_c in
    let own = setups_by_number p number in
    let start_list : z.starts ≡ starts = ap (λ (w : Code). w.starts) is_z in
    let handler_list : z.handlers ≡ entries = ap (λ (w : Code). w.handlers) is_z in
    let first = setups_onward z class b bz (end_of a) (own_setups number p.procs) (end_of b) starts leaves openings.stands run (sym is_run) written_z in
    let second = block_on z class (end_of c) class.run (end_of d) run_z in
    let third = and_one z (end_of c) (end_of d) op.End second end_of_run tt in
    let fourth = handlers_onward z class (end_of e) class.handlers (end_of f) entries bodies_z in
    let third_e = subst (λ n. Onward z (end_of c) n) (sym (put_end d e op.End is_e)) third in
    let third_b = subst (λ n. Onward z n (end_of e)) end_c third_e in
    let whole = both_on z (end_of a) (end_of b) (end_of f) first (both_on z (end_of b) (end_of e) (end_of f) third_b fourth) in
    record {
      starts = record {
        one_each = ap length start_list ∙ setups_many b class (end_of a) (own_setups number p.procs) (end_of b) starts leaves openings.stands ∙ sym (same_many p number);
        stands = λ k me entry is there.
            let mapped = ap (λ l. slice_get l k) (sym own) ∙ slice_get-map (λ me. setup_of_decl (at_number p.procs me)) (processes_of p number) k ∙ ap (option_map (λ me. setup_of_decl (at_number p.procs me))) is in
            start_stands z class run (do_all class.run []) goes b bz (end_of a) (own_setups number p.procs) (end_of b) starts leaves openings.stands written_z k (setup_of_decl (at_number p.procs me)) entry mapped (ap (λ l. slice_get l k) (sym start_list) ∙ there);
      };
      handlers = record {
        one_each = ap length handler_list ∙ handlers_many z class (end_of e) class.handlers (end_of f) entries bodies_z;
        stands = λ k h entry is there. handler_stands z class (end_of e) class.handlers (end_of f) entries bodies_z k h entry is (ap (λ l. slice_get l k) (sym handler_list) ∙ there);
      };
      yields = ap (λ (w : Code). length w.yields) is_z ∙ cf.count ∙ ap (λ n. n + (length rs + length hs)) none ∙ sum_of_both rs hs;
      points = λ at loops i todo code_for yields. point_of z class at loops i todo (Do i ∷ todo) refl code_for yields;
      forward = whole_forward z (subst (λ n. Onward z 0 n) (sym end_z) (subst (λ n. Onward z n (end_of f)) begin whole));
    }

-- the same where the processes, the statements of `run` and the handlers go by other names
pub class_is_code : (p : Program) (number : ℕ) (class : Class) (procs : List ProcDecl) (items : List Item) (hs : List Handler) (a b c d e f z : Code) (starts leaves places entries : List ℕ) (run : ℕ) → procs ≡ p.procs → items ≡ class.run → hs ≡ class.handlers
    → length (class_points class) < 2 ^ 32 → a.instrs ≡ [] → a.yields ≡ [] → MadeSetups a b class (own_setups number procs) starts leaves → run ≡ end_of b → places ≡ leaves
    → c ≡ filled b places (op.Jump run) → MadeBlock c d items → e ≡ added d op.End → MadeHandlers e f hs entries → z ≡ record f { starts = starts; handlers = entries } → IsCodeOf p number class z
class_is_code p number class procs items hs a b c d e f z starts leaves places entries run is_procs is_items is_hs few no_instrs no_yields openings is_run listed filled_so block is_e bodies is_z =
    is_code p number class a b c d e f z starts leaves places entries run few no_instrs no_yields (subst (λ l. MadeSetups a b class (own_setups number l) starts leaves) is_procs openings) is_run listed
    filled_so (subst (MadeBlock c d) is_items block) is_e (subst (λ l. MadeHandlers e f l entries) is_hs bodies) is_z
