-- What is said of the class at a place of a program.
use Rattle.std.specs.Prelude.{◌≡◌, ◌<◌, ℕ, suc, length, get_or, slice_get, Some, Result, Ok, Err, IfOk, IfErr}
use Rattle.std.proofs.Common.{ap, sym, subst, ◌∙◌}
use Rattle.std.proofs.lemmas.Option.{slice_get-get_or}
use Rattle.std.proofs.lemmas.Result.{IfOk-weaker}
use Rattle.da_values.specs.Sets.{Has}
use Rattle.da_lang.specs.declared.program.Class.{Class}
use Rattle.da_lang.specs.declared.program.Program.{Program}
use Rattle.da_types.proofs.totality.Worlds.{numbered_has}
use Rattle.query_plan.specs.declared.plan.Plan.{Plan}
use Rattle.query_plan.specs.Questions.{norm_class}
use Rattle.quant_norm.specs.Making.{MakesPlan}
use Rattle.quant_norm.specs.declared.limit.Halt.{Halt}
use Rattle.quant_norm.specs.declared.top.PlanFault.{PlanFault}
use Rattle.quant_norm.specs.declared.top.PlanFault.TheVariants.{TooMany}

-- the plan that was made
pub made_out : (whole : Plan) (r : Result Plan Halt) (p : Plan) → r ≡ Ok p → MakesPlan whole (λ plan. plan) r → whole ≡ p
made_out whole r p e made = subst (λ (z : Result Plan Halt). MakesPlan whole (λ plan. plan) z) e made

module _ (p q : Program) (number : ℕ) (its : Class) (same : q ≡ p) (inside : number < length q.classes) (is : its ≡ get_or q.classes number its) where
  one : (c : Class) → slice_get p.classes number ≡ Some c → its ≡ c
  one c there =
      let found : slice_get q.classes number ≡ Some its = slice_get-get_or q.classes number its inside ∙ ap Some (sym is) in
      let both : Some its ≡ Some c = sym found ∙ ap (λ (z : Program). slice_get z.classes number) same ∙ there in
      cc

  pub plan_answered : (P : Class → Plan → Type 0) (r : Result Plan PlanFault) → IfOk r (P its) → IfOk r (λ plan. (c : Class) → slice_get p.classes number ≡ Some c → P c plan)
  plan_answered P (Ok plan) holds = λ c there. subst (λ z. P z plan) (one c there) holds
  plan_answered P (Err e) holds = tt

  -- what is so of the plan of each class of the program
  pub law_answered : (P : Class → Plan → Type 0) → ((c : Class) → Has p.classes c → P c (norm_class c)) → (r : Result Plan PlanFault) → IfOk r (λ plan. plan ≡ norm_class its) → IfOk r (λ plan. (c : Class) → slice_get p.classes number ≡ Some c → P c plan)
  law_answered P law r made =
      IfOk-weaker r (λ plan. (c : Class) → slice_get p.classes number ≡ Some c → plan ≡ norm_class c) (λ plan. (c : Class) → slice_get p.classes number ≡ Some c → P c plan)
      (λ plan all c there. subst (P c) (sym (all c there)) (law c (numbered_has p.classes (suc number) c there))) (plan_answered (λ c plan. plan ≡ norm_class c) r made)

  abbrev Exceeds : ℕ → Class → Type 0
  Exceeds line c = (line ≡ c.line) × (4096 < length (norm_class c).nodes)

  pub fault_answered : (r : Result Plan PlanFault) → IfErr r (λ fault. (line : ℕ) → fault ≡ TooMany line → Exceeds line its) → IfErr r (λ fault. (line : ℕ) → fault ≡ TooMany line → (c : Class) → slice_get p.classes number ≡ Some c → Exceeds line c)
  fault_answered (Ok plan) holds = tt
  fault_answered (Err e) holds = λ line told c there. subst (Exceeds line) (one c there) (holds line told)
