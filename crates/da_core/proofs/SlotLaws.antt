-- Slots in code.
use Rattle.std.proofs.Common.{◌≡◌, ℕ, suc, ◌+◌, List, sym, ap, arith}
use Rattle.std.specs.Prelude.{slice_get}
use Rattle.da_values.specs.declared.val.Val.{Val}
use Rattle.da_values.proofs.ViewLaws.{proc_of-val_of, proc_of-Proc, int_of-val_of}
use Rattle.da_lang.specs.World.{at_number}

pub ruleset viewing = (proc_of-val_of, proc_of-Proc, int_of-val_of)

-- a slot is numbered from 1, and its place is counted from 0
pub slot_there : (s place : ℕ) → s ≡ place + 1 → (slots : List Val) → slice_get slots place ≡ at_number slots s
slot_there s place is slots =
    let next : s ≡ suc place = omega (arith, is) in
    sym (ap (at_number slots) next)
