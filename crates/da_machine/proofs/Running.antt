-- A run in code, instruction by instruction.
use Rattle.std.proofs.Common.{◌≡◌, List, [], ◌++◌, Option, Some, None, refl, sym, ap, ◌∙◌, subst}
use mathlib.Core.List.{append-nil}
use Rattle.da_lang.specs.declared.code.Instr.{Instr}
use Rattle.da_lang.specs.declared.event.Action.{Action}
use Rattle.da_lang.specs.declared.program.Class.{Class}
use Rattle.da_lang.specs.declared.program.Program.{Program}
use Rattle.da_lang.specs.World.{Data}
use Rattle.da_machine.specs.declared.code.Code.{Code}
use Rattle.da_machine.specs.declared.machine.Machine.{Machine}
use Rattle.da_machine.specs.declared.machine.Stop.{Stop}
use Rattle.da_machine.specs.declared.machine.Stop.TheVariants as stop
use Rattle.da_machine.specs.Acts.{Act, Goes, Halts, act}
use Rattle.da_machine.specs.Allowed.{IsAllowed}
use Rattle.da_machine.specs.Conditions.{Standing}
use Rattle.da_machine.proofs.Prefixes.{IsPart, none_told, part_then, part_prefix_of, part_whole, prefix_before, prefix_as}
use Rattle.da_machine.specs.RunsTo.{RunsTo, halts, goes, instr_at, IsAct, AddsPrefix, actions_of, MayAct, Acted, Began, MayRun, RanTo, RanPart}

module _ (p : Program) (class : Class) (code : Code) where
  -- what a run that begins with this act does
  abbrev RunsBy : Act → Data → List Action → Stop → Machine → Data → Type 0
  RunsBy (Goes m1 d1 now) d due s m2 d2 = (more : List Action) × (due ≡ now ++ more) × RunsTo p class code m1 d1 more s m2 d2
  RunsBy (Halts s1 m1) d due s m2 d2 = (due ≡ []) × (s ≡ s1) × (m2 ≡ m1) × (d2 ≡ d)

  begins : (m : Machine) (d : Data) (due : List Action) (s : Stop) (m2 : Machine) (d2 : Data) → RunsTo p class code m d due s m2 d2
      → IsAllowed p class (instr_at code m) m d × RunsBy (act class.queries (instr_at code m) m d) d due s m2 d2
  begins _ _ _ _ _ _ (halts {m} {m1} {d} {s} may is) = (may, subst (λ done. RunsBy done d [] s m1 d) (sym is) (refl, refl, refl, refl))
  begins _ _ _ _ _ _ (goes {m} {m1} {m2} {d} {d1} {d2} {now} {more} {s} may is run) = (may, subst (λ done. RunsBy done d (now ++ more) s m2 d2) (sym is) (more, refl, run))

  -- the same where the instruction is known
  abbrev Begins : Option Instr → Machine → Data → List Action → Stop → Machine → Data → Type 0
  Begins i m d due s m2 d2 = IsAllowed p class i m d × RunsBy (act class.queries i m d) d due s m2 d2

  begins_with : (i : Option Instr) (m : Machine) (d : Data) (due : List Action) (s : Stop) (m2 : Machine) (d2 : Data) → instr_at code m ≡ i → RunsTo p class code m d due s m2 d2 → Begins i m d due s m2 d2
  begins_with i m d due s m2 d2 there run = subst (λ j. Begins j m d due s m2 d2) there (begins m d due s m2 d2 run)

  -- what is left of the run after an instruction that goes on
  rest_of : (done : Act) (m1 : Machine) (stands : Data → Type 0) (d : Data) (old new due : List Action) (s : Stop) (m2 : Machine) (d2 : Data) → IsAct done None m1 stands d old new → RunsBy done d due s m2 d2
      → (d1 : Data) × (more : List Action) × stands d1 × RunsTo p class code m1 d1 more s m2 d2 × IsPart old new due more
  rest_of (Goes n1 d1 now) m1 stands d old new due s m2 d2 acted run = (
    d1,
    run.0,
    acted.2,
    subst (λ x. RunsTo p class code x d1 run.0 s m2 d2) (sym acted.1) run.2,
    (now, acted.3, run.1),
  )
  rest_of (Halts s1 n1) m1 stands d old new due s m2 d2 acted run = absurd (let e = acted.0 in cc)

  -- an instruction that halts ends it
  end_of : (done : Act) (s1 : Stop) (m1 : Machine) (stands : Data → Type 0) (d : Data) (old new due : List Action) (s : Stop) (m2 : Machine) (d2 : Data) → IsAct done (Some s1) m1 stands d old new → RunsBy done d due s m2 d2
      → (s1 ≡ s) × (m1 ≡ m2) × stands d2 × (new ≡ old ++ due)
  end_of (Goes n1 d1 now) s1 m1 stands d old new due s m2 d2 acted run = absurd (let e = acted.0 in cc)
  end_of (Halts s3 n1) s1 m1 stands d old new due s m2 d2 acted run =
      let e = acted.0 in
      (cc, acted.1 ∙ sym run.2, subst stands (sym run.3) acted.2, acted.3 ∙ sym (append-nil old) ∙ ap (λ l. old ++ l) (sym run.0))

  -- a prefix of an instruction's actions is a prefix of the run's
  front_of : (done : Act) (d : Data) (old new due : List Action) (s : Stop) (m2 : Machine) (d2 : Data) → AddsPrefix old new (actions_of done) → RunsBy done d due s m2 d2 → AddsPrefix old new due
  front_of (Goes m1 d1 now) d old new due s m2 d2 front run = prefix_as old new (now ++ run.0) due (sym run.1) (prefix_before old new now run.0 front)
  front_of (Halts s1 m1) d old new due s m2 d2 front run = prefix_as old new [] due (sym run.0) front

-- The run goes on for some process that is stood for, and for each process at the beginning there is now one whose run
-- is what is left.
pub record Running (code : Code) (m0 m : Machine) (stands now : Standing) (old new : List Action) : Type 0 where
  pub alive : MayRun code m now
  pub follows : (p : Program) (class : Class) (d : Data) (due : List Action) (s : Stop) (m2 : Machine) (d2 : Data) → stands p class d → RunsTo p class code m0 d due s m2 d2
      → (d1 : Data) × (more : List Action) × now p class d1 × RunsTo p class code m d1 more s m2 d2 × IsPart old new due more

pub running_begins : (code : Code) (m : Machine) (stands : Standing) (old : List Action) → MayRun code m stands → Running code m m stands stands old old
running_begins code m stands old may = record { alive = may; follows = λ p class d due s m2 d2 is run. (d, due, is, run, none_told old due) }

module _ (code : Code) (m0 m : Machine) (stands now : Standing) (old new : List Action) (came : Running code m0 m stands now old new) where
  module _ (i : Instr) (there : instr_at code m ≡ Some i) where
    pub may_act : MayAct (Some i) m now
    may_act = (let a = came.alive in (a.0, a.1, a.2, a.3, (begins_with a.0 a.1 code (Some i) m a.2 _ _ _ _ there a.4.4).0))

    pub running_on : (m1 : Machine) (later : Standing) (new1 : List Action) → Acted (Some i) m m1 now later new new1 None → Running code m0 m1 stands later old new1
    running_on m1 later new1 acted = record {
      alive =
          let a = came.alive in
          let r = rest_of a.0 a.1 code _ m1 (later a.0 a.1) a.2 new new1 _ _ _ _ (acted a.0 a.1 a.2 a.3) (begins_with a.0 a.1 code (Some i) m a.2 _ _ _ _ there a.4.4).1 in
          (a.0, a.1, r.0, r.2, (r.1, _, _, _, r.3));
      follows = λ p class d due s m2 d2 is run.
          let f = came.follows p class d due s m2 d2 is run in
          let r = rest_of p class code _ m1 (later p class) f.0 new new1 _ s m2 d2 (acted p class f.0 f.2) (begins_with p class code (Some i) m f.0 _ _ _ _ there f.3).1 in
          (r.0, r.1, r.2, r.3, part_then old new new1 due f.1 r.1 f.4 r.4);
    }

    pub run_ends : (s1 : Stop) (m1 : Machine) (later : Standing) (new1 : List Action) → Acted (Some i) m m1 now later new new1 (Some s1) → RanTo code m0 m1 stands later old new1 s1
    run_ends s1 m1 later new1 acted p class d due s m2 d2 is run =
        let f = came.follows p class d due s m2 d2 is run in
        let r = end_of p class code _ s1 m1 (later p class) f.0 new new1 _ s m2 d2 (acted p class f.0 f.2) (begins_with p class code (Some i) m f.0 _ _ _ _ there f.3).1 in
        (r.0, r.1, r.2, part_whole old new new1 due f.1 f.4 r.3)

    pub run_breaks : (new1 : List Action) → Began (Some i) m now new new1 → RanPart code m0 stands old new1
    run_breaks new1 began p class d due s m2 d2 is run =
        let f = came.follows p class d due s m2 d2 is run in
        let r = front_of p class code _ f.0 new new1 _ s m2 d2 (began p class f.0 f.2) (begins_with p class code (Some i) m f.0 _ _ _ _ there f.3).1 in
        part_prefix_of old new new1 due f.1 f.4 r

  -- after the last instruction
  pub run_past : instr_at code m ≡ None → RanTo code m0 m stands now old new stop.Ended
  run_past there p class d due s m2 d2 is run =
      let f = came.follows p class d due s m2 d2 is run in
      let b = (begins_with p class code None m f.0 _ _ _ _ there f.3).1 in
      (sym b.1, sym b.2, subst (now p class) (sym b.3) f.2, part_whole old new new due f.1 f.4 (sym (append-nil new) ∙ ap (λ l. new ++ l) (sym b.0)))
