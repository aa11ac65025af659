-- The causes of faults: where a turn ends the session with a fault, and where it does not.
use Rattle.std.proofs.Common.{◌≡◌, refl, ◌∙◌, ap, subst, sym, inr, ℕ, ◌<◌, ◌≤◌, arith}
use Rattle.std.specs.Prelude.{◌⊎◌, Bool, true, false, nat_lt, List, Option, Some, None, Result, Ok, Err, IfSome}
use Rattle.std.proofs.lemmas.Option.{none-some, same_Some}
use Rattle.da_outside.specs.declared.outside.Trouble.{Trouble}
use Rattle.da_outside.specs.declared.outside.Trouble.TheVariants.{Failed}
use Rattle.da_outside.specs.Outside.{HasCause}
use Rattle.da_outside.proofs.OutsideLemmas.{cause_as}
use Rattle.lsp_frames.specs.Stream.{HasNone}
use Rattle.lsp_server.specs.declared.phase.Phase.{Phase}
use Rattle.lsp_server.specs.declared.phase.Phase.TheVariants.{Down, Fresh, Ready}
use Rattle.lsp_server.specs.declared.status.Status.{Status}
use Rattle.lsp_server.specs.declared.status.Status.TheVariants.{Closed, Left, ReadFault, Spent, Stopped, WriteFault}
use Rattle.lsp_server.specs.Session.{IsCut, left_from}

-- a read that did not fail

ok_failed : (count : ℕ) → ◌≡◌ {A = Result ℕ Trouble} (Ok count) (Err Failed) → ⊥
ok_failed count is = cc

pub read_cause : (count : ℕ) (result : Option Status) (before now : ℕ) → (result ≡ Some ReadFault → ⊥) → HasCause before now (◌≡◌ {A = Result ℕ Trouble} (Ok count) (Err Failed)) → HasCause before now (result ≡ Some ReadFault)
read_cause count result before now never cause = cause_as {P = ◌≡◌ {A = Result ℕ Trouble} (Ok count) (Err Failed)} {Q = result ≡ Some ReadFault} before now (λ failed. absurd (ok_failed count failed)) (λ is. absurd (never is)) cause

closed_read : Closed ≡ ReadFault → ⊥
closed_read is = cc

closed_write : Closed ≡ WriteFault → ⊥
closed_write is = cc

-- a session ends as closed after it, or goes on
other_end : (result : Option Status) (count : ℕ) (fault : Status) → (Closed ≡ fault → ⊥) → IfSome result (λ status. (status ≡ Closed) × (count ≡ 0)) → result ≡ Some fault → ⊥
other_end None count fault other ends is = none-some fault is
other_end (Some status) count fault other ends is = other (sym ends.0 ∙ same_Some status fault is)

pub end_unread : (result : Option Status) (count : ℕ) → IfSome result (λ status. (status ≡ Closed) × (count ≡ 0)) → result ≡ Some ReadFault → ⊥
end_unread result count ends is = other_end result count ReadFault closed_read ends is

pub end_unwritten : (result : Option Status) (count : ℕ) → IfSome result (λ status. (status ≡ Closed) × (count ≡ 0)) → result ≡ Some WriteFault → ⊥
end_unwritten result count ends is = other_end result count WriteFault closed_write ends is

pub end_closed : (left : Option (List ℕ)) (result : Option Status) (count : ℕ) → (count ≡ 0 → HasNone left) → IfSome result (λ status. (status ≡ Closed) × (count ≡ 0))
    → IfSome result (λ status. IsCut status ⊎ ((status ≡ Closed) × HasNone left))
end_closed left None count none ends = tt
end_closed left (Some status) count none ends = inr (ends.0, none ends.1)

-- the turn after which a session ends
pub last_cause : (first before now : ℕ) (result : Option Status) (status fault : Status) → before ≡ first → result ≡ Some status → HasCause before now (result ≡ Some fault) → HasCause first now (status ≡ fault)
last_cause first before now result status fault same is cause =
    subst (λ n. HasCause n now (status ≡ fault)) same (cause_as {P = result ≡ Some fault} {Q = status ≡ fault} before now (λ over. same_Some status fault (sym is ∙ over)) (λ one. is ∙ ap Some one) cause)

rose_by : (before now : ℕ) → nat_lt before now ≡ true → before < now
rose_by before now is = grind arith

still_by : (before now : ℕ) → nat_lt before now ≡ false → now ≤ before
still_by before now is = grind arith

-- a turn after which it goes on
pub no_rise : (first before now : ℕ) (result : Option Status) (fault : Status) → before ≡ first → result ≡ None → HasCause before now (result ≡ Some fault) → now ≡ first
no_rise first before now result fault same none cause = of (nat_lt before now) refl
  where
    of : (rose : Bool) → nat_lt before now ≡ rose → now ≡ first
    of true is = absurd (none-some fault (sym none ∙ cause.rises (rose_by before now is)))
    of false is =
        let past : now ≤ before = still_by before now is in
        let later : before ≤ now = cause.later in
        omega (arith, past, later, same)

-- no turn is left
pub still_cause : (first now : ℕ) (status fault : Status) → now ≡ first → (status ≡ fault → ⊥) → HasCause first now (status ≡ fault)
still_cause first now status fault same never =
    record {
      later = omega (arith, same);
      failed = λ is. absurd (never is);
      rises = λ rose. absurd (let rose : first < now = rose in omega (arith, rose, same));
    }

pub spent_read : Spent ≡ ReadFault → ⊥
spent_read is = cc

pub spent_write : Spent ≡ WriteFault → ⊥
spent_write is = cc

-- how a session ends by `exit` is no fault
left_no : (phase : Phase) (fault : Status) → (Stopped ≡ fault → ⊥) → (Left ≡ fault → ⊥) → left_from phase ≡ fault → ⊥
left_no Down fault stopped left is = stopped is
left_no Fresh fault stopped left is = left is
left_no Ready fault stopped left is = left is

stopped_write : Stopped ≡ WriteFault → ⊥
stopped_write is = cc

left_write : Left ≡ WriteFault → ⊥
left_write is = cc

stopped_read : Stopped ≡ ReadFault → ⊥
stopped_read is = cc

left_read : Left ≡ ReadFault → ⊥
left_read is = cc

pub left_unwritten : (phase : Phase) (status : Status) → status ≡ left_from phase → ◌≡◌ {A = Option Status} (Some status) (Some WriteFault) → ⊥
left_unwritten phase status leaves is = left_no phase WriteFault stopped_write left_write (sym leaves ∙ same_Some status WriteFault is)

pub left_unread : (phase : Phase) (status : Status) → status ≡ left_from phase → ◌≡◌ {A = Option Status} (Some status) (Some ReadFault) → ⊥
left_unread phase status leaves is = left_no phase ReadFault stopped_read left_read (sym leaves ∙ same_Some status ReadFault is)

-- a session that ends does not go on
pub ended : {P : Type 0} (status : Status) → ◌≡◌ {A = Option Status} (Some status) None → P
ended status is = absurd (none-some status (sym is))
