-- Turns, runs and steps of an accepted program keep worlds shaped.
use Rattle.std.specs.Prelude.{◌≡◌, refl, ◌^◌, ◌<◌, length}
use Rattle.std.proofs.Common.{◌∙◌, ap, sym, subst}
use Rattle.da_lang.specs.declared.program.Program.{Program}
use Rattle.da_lang.specs.Accepted.{IsAccepted}
use Rattle.da_lang.specs.Typing.{filled}
use Rattle.da_types.specs.Constants.{ConstantsAreThere}
use Rattle.da_types.specs.KeepsShaped.{KeepsShaped}
use Rattle.da_types.proofs.resolved.FewProcesses.{process_numbers}
use Rattle.da_types.proofs.resolved.ResolvedTyped.{resolved_is_typed}
use Rattle.da_types.proofs.shaped.Known.{IsWholeProgram}
use Rattle.da_types.proofs.shaped.RunsKept.{run_to_yield_leaves}
use Rattle.da_types.proofs.shaped.StepsKept.{step_leaves}
use Rattle.da_types.proofs.shaped.TurnsKept.{turn_leaves}
use Rattle.da_types.proofs.totality.OpeningWorlds.{opening_shaped}

filled_procs : (p : Program) → (filled p).procs ≡ p.procs
unfolding filled
filled_procs p = refl

-- an accepted program is whole, where its constants are there
pub accepted_is_whole : (p : Program) → IsAccepted p → ConstantsAreThere p → IsWholeProgram p
accepted_is_whole p accepted there =
    let r = accepted.resolved in
    let same : p.procs ≡ accepted.untyped.procs = ap (λ (q : Program). q.procs) accepted.typed.becomes ∙ filled_procs accepted.untyped in
    record {
      typed = resolved_is_typed r.tree accepted.untyped p r.resolves accepted.typed;
      few = subst (λ ps. length ps < 2 ^ 16) (sym same) (process_numbers r.tree accepted.untyped r.resolves);
      constants = there;
    }

pub whole_keeps_shaped : (p : Program) → IsWholeProgram p → KeepsShaped p
whole_keeps_shaped p f = record {
  opens = λ me c is known. opening_shaped p me c f.few is known;
  turns = λ c t d todo s is rest. turn_leaves p c f t d todo s is rest;
  runs = λ c n d todo s rest. run_to_yield_leaves p c f n d todo s rest;
  steps = λ w step r shaped may is. step_leaves p f w step r shaped may is;
}
