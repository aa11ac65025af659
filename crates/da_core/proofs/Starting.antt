-- A process before its first event.
use Rattle.std.proofs.Common.{◌≡◌, ℕ, zero, suc, ◌+◌, ◌-◌, List, [], ◌∷◌, length, map, take, Option, Some, None, refl, sym, ap, ◌∙◌, subst, arith, if◌then◌else◌}
use Rattle.std.specs.Prelude.{Bool, true, false, nat_eq, slice_get}
use Rattle.std.proofs.lemmas.Bool.{eq-eqb, false≢true}
use Rattle.std.proofs.lemmas.List.Elements.{All-nil}
use Rattle.da_lang.specs.declared.program.Class.{Class}
use Rattle.da_lang.specs.declared.program.ProcDecl.{ProcDecl}
use Rattle.da_lang.specs.declared.program.Program.{Program}
use Rattle.da_lang.specs.Shaped.{IsProcess, IsTask, ShapedData}
use Rattle.da_lang.specs.Steps.{first_tasks}
use Rattle.da_lang.specs.World.{Data, at_number, class_of, class_of_decl, first_value, opening, opening_data, New}
use Rattle.da_machine.specs.CodeFor.{CodeFor}
use Rattle.code_gen.specs.ClassCode.{numbered_from, processes_of}
use Rattle.query_plan.specs.declared.plan.Plan.{Plan}
use Rattle.query_plan.specs.declared.stored.Stored.{Stored}
use Rattle.query_plan.specs.Nodes.{IsPlan}
use Rattle.query_plan.specs.PlainNodes.{PlainNodes}
use Rattle.query_plan.specs.Questions.{norm_class}
use Rattle.query_plan.specs.Seen.{IsStored}
use Rattle.row_pool.specs.Pool.{HoldsAll}
use Rattle.delta_rules.specs.Holding.{ids_of_answers}
use Rattle.delta_rules.specs.Keeping.{Keeps}
use Rattle.delta_rules.specs.Laid.{IsLaid}
use Rattle.da_core.specs.declared.compiled.ClassCode.{ClassCode}
use Rattle.da_core.specs.declared.compiled.Compiled.{Compiled}
use Rattle.da_core.specs.declared.process.Core.{Core}
use Rattle.da_core.specs.declared.place.Place.TheVariants as place
use Rattle.da_core.specs.Compiled.{IsCompiled, code_at, code_of, count_of, program_of, rank_in, start_at, start_in}
use Rattle.da_core.specs.Known.{Knows}
use Rattle.da_core.specs.StandsFor.{IsPlace, StandsFor}
use Rattle.da_core.proofs.KnownLaws.{opens}
use Rattle.da_core.proofs.Laws.{has_class, keeps_shaped}

-- THE START OF A PROCESS

-- a member of the class counts, and is one of those numbered
skipped : (b : Bool) (first : ℕ) (numbers : List ℕ) (count x : ℕ) → slice_get numbers count ≡ Some x → slice_get (if b then first ∷ numbers else numbers) (if b then suc count else count) ≡ Some x
skipped true first numbers count x there = there
skipped false first numbers count x there = there

counted : (b : Bool) (first : ℕ) (numbers : List ℕ) → b ≡ true → slice_get (if b then first ∷ numbers else numbers) 0 ≡ Some first
counted true first numbers is = refl
counted false first numbers is = absurd (false≢true is)

number_at : (number first place : ℕ) (ds : List ProcDecl) (decl : ProcDecl) → slice_get ds place ≡ Some decl → decl.class ≡ number
    → slice_get (numbered_from first number ds) (count_of number (take place ds)) ≡ Some (first + place)
number_at number first place [] decl there is = absurd (let none : ◌≡◌ {A = Option ProcDecl} None (Some decl) = there in cc)
number_at number first zero (d ∷ ds) decl there is =
    let both : ◌≡◌ {A = Option ProcDecl} (Some d) (Some decl) = there in
    let same : d ≡ decl = cc in
    counted (nat_eq d.class number) first (numbered_from (suc first) number ds) (eq-eqb d.class number (ap (λ (x : ProcDecl). x.class) same ∙ is)) ∙ ap Some (omega arith)
number_at number first (suc place) (d ∷ ds) decl there is =
    skipped (nat_eq d.class number) first (numbered_from (suc first) number ds) (count_of number (take place ds)) (suc first + place) (number_at number (suc first) place ds decl there is)
    ∙ ap Some (omega arith)

-- the code of a process, and where it begins
pub record Begun (c : Compiled) (me : ℕ) : Type 0 where
  pub class : Class
  pub code : ClassCode
  pub entry : ℕ
  pub classed : class_of (program_of c) me ≡ Some class
  pub coded : code_of c me ≡ Some code
  pub plan : code.plan ≡ norm_class class
  pub stored : IsStored (norm_class class).nodes code.stored
  pub starts : start_in (program_of c) (code_of c me) me ≡ Some entry
  pub code_for : CodeFor code.code class entry [] (first_tasks (program_of c) class me)

module _ (c : Compiled) (me : ℕ) (is : IsCompiled c) where
  abbrev p : Program
  p = program_of c

  -- where a list of entries has one for each, the one at a place that is there is there
  entry_there : (A : Type 0) (xs : List A) (entries : List ℕ) (k : ℕ) (x : A) → length entries ≡ length xs → slice_get xs k ≡ Some x → (entry : ℕ) × (slice_get entries k ≡ Some entry)
  entry_there A [] entries k x same there = absurd (let none : ◌≡◌ {A = Option A} None (Some x) = there in cc)
  entry_there A (y ∷ ys) [] k x same there = absurd (omega (arith, same))
  entry_there A (y ∷ ys) (e ∷ es) zero x same there = (e, refl)
  entry_there A (y ∷ ys) (e ∷ es) (suc k) x same there = entry_there A ys es k x (omega (arith, same)) there

  placed : (number : ℕ) (decl : ProcDecl) → at_number p.procs number ≡ Some decl → slice_get (processes_of p decl.class) (count_of decl.class (take (number - 1) p.procs)) ≡ Some number
  placed zero decl there = absurd (let none : ◌≡◌ {A = Option ProcDecl} None (Some decl) = there in cc)
  placed (suc place) decl there =
      ap (λ n. slice_get (processes_of p decl.class) (count_of decl.class (take n p.procs))) (let less : suc place - 1 ≡ place = omega arith in less)
      ∙ number_at decl.class 1 place p.procs decl there refl ∙ ap Some (let next : 1 + place ≡ suc place = omega arith in next)

  begun_by : (found : Option ProcDecl) (class : Class) → at_number p.procs me ≡ found → class_of_decl p found ≡ Some class → Begun c me
  begun_by None class there classed = absurd (let none : ◌≡◌ {A = Option Class} None (Some class) = classed in cc)
  begun_by (Some decl) class there classed =
      let has = is.classes decl.class class classed in
      let starts = has.is.code.starts in
      let stands = placed me decl there in
      let (entry, at) = entry_there ℕ (processes_of p decl.class) has.code.code.starts (count_of decl.class (take (me - 1) p.procs)) me starts.one_each stands in
      let coded : code_of c me ≡ Some has.code = ap (code_at c.codes) there ∙ has.there in
      record {
        class = class;
        code = has.code;
        entry = entry;
        classed = ap (class_of_decl p) there ∙ classed;
        coded = coded;
        plan = has.is.plan;
        stored = has.is.stored;
        starts = ap (λ found. start_in p found me) coded ∙ ap (λ found. start_at (rank_in p found me) has.code) there ∙ at;
        code_for = starts.stands (count_of decl.class (take (me - 1) p.procs)) me entry stands at;
      }

  pub begun : IsProcess p me → Begun c me
  begun there = let (class, classed) = has_class p me is.accepted there in begun_by (at_number p.procs me) class refl classed

  -- the code that was found is that of the class
  one_code : (b : Begun c me) (code : ClassCode) → code_of c me ≡ Some code → b.code ≡ code
  one_code b code coded = let codes : ◌≡◌ {A = Option ClassCode} (Some b.code) (Some code) = sym b.coded ∙ coded in cc

  -- what is stored of its plan
  is_stored : (b : Begun c me) (code : ClassCode) → code_of c me ≡ Some code → IsStored (norm_class b.class).nodes code.stored
  is_stored b code coded = subst (λ (x : ClassCode). IsStored (norm_class b.class).nodes x.stored) (one_code b code coded) b.stored

  -- is a plan, and plain
  pub has_a_plan : IsProcess p me → (code : ClassCode) → code_of c me ≡ Some code → IsPlan code.stored.plan.nodes × PlainNodes code.stored.plan.nodes
  has_a_plan there code coded = let stored = is_stored (begun there) code coded in (stored.plan, stored.plain)

  -- A NEW CORE stands for the opening.
  module _ (there : IsProcess p me) (core : Core) (of_c : core.compiled.now ≡ c) (code : ClassCode) (coded : code_of c me ≡ Some code) (planned : core.known.plan.now ≡ code.plan) (kept : core.known.stored.now ≡ code.stored) where
    starts_as : core.spent ≡ false → core.place ≡ place.New → core.known.actions ≡ []
        → ((class : Class) → class_of p me ≡ Some class → core.known.plan.now ≡ norm_class class → Knows core.known p class (opening_data p me)) → core.machine.loops ≡ []
        → core.machine.stack ≡ [] → start_in p (code_of c me) me ≡ Some core.machine.place → StandsFor core (opening p me)
    starts_as unspent new no_actions opened loops no_values entry =
        let b = begun there in
        let open_world = (keeps_shaped p is.accepted).opens me b.class there b.classed in
        let classes : ◌≡◌ {A = Option Class} (Some open_world.class) (Some b.class) = sym open_world.knows.is_class ∙ b.classed in
        let same_class : open_world.class ≡ b.class = cc in
        let knows : ShapedData p b.class (opening_data p me) = subst (λ x. ShapedData p x (opening_data p me)) same_class open_world.knows in
        let keeps : Knows core.known p b.class (opening_data p me) = opened b.class b.classed (planned ∙ ap (λ (x : ClassCode). x.plan) (sym (one_code b code coded)) ∙ b.plan) in
        let entries : ◌≡◌ {A = Option ℕ} (Some b.entry) (Some core.machine.place) = sym b.starts ∙ entry in
        let same_entry : b.entry ≡ core.machine.place = cc in
        let code_for : CodeFor b.code.code b.class core.machine.place core.machine.loops (first_tasks p b.class me) =
        subst (λ ls. CodeFor b.code.code b.class core.machine.place ls (first_tasks p b.class me)) (sym loops)
        (subst (λ x. CodeFor b.code.code b.class x [] (first_tasks p b.class me)) same_entry b.code_for) in
        record {
          unspent = unspent;
          compiled = subst IsCompiled (sym of_c) is;
          class = b.class;
          code = b.code;
          code_is = ap (λ x. code_of x me) of_c ∙ b.coded;
          knows = subst (λ x. ShapedData (program_of x) b.class (opening_data p me)) (sym of_c) knows;
          tasks = All-nil (IsTask (program_of core.compiled.now) b.class me);
          stands = subst (λ x. Knows core.known (program_of x) b.class (opening_data p me)) (sym of_c) keeps;
          no_actions = no_actions;
          place = subst (λ x. IsPlace [] x New) (sym new) refl;
          at = subst (λ x. CodeFor b.code.code b.class core.machine.place core.machine.loops (first_tasks (program_of x) b.class me)) (sym of_c) code_for;
          no_values = no_values;
        }

    -- where its parts are those of the opening
    pub starts_with : (class : Class) → class_of p me ≡ Some class → core.spent ≡ false → core.place ≡ place.New → core.known.actions ≡ [] → core.known.clock ≡ 0
        → ((d : Data) → d.me ≡ me → d.slots ≡ map (first_value me) class.slots → d.sent ≡ [] → d.received ≡ [] → Keeps core.known.answers core.known.pool code.stored.plan.nodes d)
        → IsLaid core.known.answers core.known.pool code.stored.plan.nodes → HoldsAll core.known.pool (ids_of_answers core.known.answers) → core.machine.loops ≡ [] → core.machine.stack ≡ []
        → start_in p (code_of c me) me ≡ Some core.machine.place → StandsFor core (opening p me)
    starts_with class classed unspent new no_actions early keeps laid held loops no_values entry =
        starts_as unspent new no_actions opened loops no_values entry
      where
        keeps_first : (d : Data) → d.me ≡ me → d.slots ≡ map (first_value me) class.slots → d.sent ≡ [] → d.received ≡ [] → Keeps core.known.answers core.known.pool core.known.stored.now.plan.nodes d
        keeps_first d mine slots sent received = subst (λ (x : Stored). Keeps core.known.answers core.known.pool x.plan.nodes d) (sym kept) (keeps d mine slots sent received)

        opened : (other : Class) → class_of p me ≡ Some other → core.known.plan.now ≡ norm_class other → Knows core.known p other (opening_data p me)
        opened other others plan =
            let both : ◌≡◌ {A = Option Class} (Some class) (Some other) = sym classed ∙ others in
            let same : class ≡ other = cc in
            let b = begun there in
            let ours : ◌≡◌ {A = Option Class} (Some b.class) (Some other) = sym b.classed ∙ others in
            let mine : b.class ≡ other = cc in
            let stored : IsStored core.known.plan.now.nodes core.known.stored.now =
            subst (λ (x : Plan). IsStored x.nodes core.known.stored.now) (ap norm_class mine ∙ sym plan)
            (subst (λ (x : Stored). IsStored (norm_class b.class).nodes x) (sym kept) (is_stored b code coded)) in
            opens core.known p me other others plan stored early (λ d mine slots sent received. keeps_first d mine (slots ∙ ap (λ (k : Class). map (first_value me) k.slots) (sym same)) sent received)
            (subst (λ (x : Stored). IsLaid core.known.answers core.known.pool x.plan.nodes) (sym kept) laid) held

  -- the class, its code and the start are there
  pub has_a_class : IsProcess p me → None ≡ class_of p me → ⊥
  has_a_class there none = let b = begun there in let both : ◌≡◌ {A = Option Class} None (Some b.class) = none ∙ b.classed in cc

  pub has_a_code : IsProcess p me → None ≡ code_of c me → ⊥
  has_a_code there none = let b = begun there in let both : ◌≡◌ {A = Option ClassCode} None (Some b.code) = none ∙ b.coded in cc

  pub has_a_start : IsProcess p me → None ≡ start_in p (code_of c me) me → ⊥
  has_a_start there none = let b = begun there in let both : ◌≡◌ {A = Option ℕ} None (Some b.entry) = none ∙ b.starts in cc
