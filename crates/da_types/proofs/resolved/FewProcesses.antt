-- A program that limits do not refuse has at most 64 processes.
use Rattle.std.specs.Prelude.{◌≡◌, refl, ℕ, ◌+◌, ◌<◌, ◌≤◌, ◌^◌, nat_lt, Bool, true, false, List, [], ◌∷◌, length, flat_map, if◌then◌else◌}
use Rattle.std.proofs.Common.{◌∙◌, ap, sym, subst, arith, length-append}
use Rattle.std.proofs.lemmas.Bool.{ltb-false}
use Rattle.std.proofs.lemmas.List.{length-replicate}
use Rattle.da_lang.specs.declared.program.Program.{Program}
use Rattle.da_lang.specs.declared.tree.MainLine.{MainLine}
use Rattle.da_lang.specs.declared.tree.MainLine.TheVariants as main_line
use Rattle.da_lang.specs.declared.tree.Tree.{Tree}
use Rattle.da_lang.specs.Limits.{Resolves, limit_refusals, line_of_main, most_processes, processes_over}
use Rattle.da_lang.specs.Resolution.{made_count, many, procs_of, resolved}
use Rattle.da_types.proofs.resolved.CallsAllowed.{map_none}
use Rattle.da_types.proofs.totality.Awaits.{no_left, no_right}

pub made_length : (t : Tree) (l : MainLine) → length (procs_of t l) ≡ made_count l
made_length t (main_line.New name class count line) = length-replicate (many count) _
made_length t (main_line.Setup name args line) = refl

fits : (before n : ℕ) (line : ℕ) (rest : List ℕ) → (if nat_lt most_processes n then line ∷ [] else rest) ≡ [] → (n ≤ most_processes) × (rest ≡ [])
fits before n line rest e = go (nat_lt most_processes n) refl e
  where
    go : (b : Bool) → nat_lt most_processes n ≡ b → (if b then line ∷ [] else rest) ≡ [] → (n ≤ most_processes) × (rest ≡ [])
    go true is none = absurd (cc)
    go false is none = (omega (arith, ltb-false _ _ is), none)

few : (t : Tree) (before : ℕ) (ls : List MainLine) → before ≤ most_processes → processes_over before ls ≡ [] → before + length (flat_map (procs_of t) ls) ≤ most_processes
few t before [] inside e = omega (arith, inside)
few t before (l ∷ ls) inside e =
    let (here, rest) = fits before (before + made_count l) (line_of_main l) (processes_over (before + made_count l) ls) e in
    let others = few t (before + made_count l) ls here rest in
    let size = length-append (procs_of t l) (flat_map (procs_of t) ls) in
    omega (arith, others, size, made_length t l)

most_is : most_processes ≡ 64
unfolding most_processes
most_is = refl

main_within : (t : Tree) → limit_refusals t ≡ [] → processes_over 0 t.main ≡ []
unfolding limit_refusals
main_within t e = map_none _ _ (no_right _ _ (no_left _ _ (no_left _ _ (no_left _ _ (no_left _ _ (no_left _ _ e))))))

pub procs_are : (t : Tree) → (resolved t).procs ≡ flat_map (procs_of t) t.main
unfolding resolved
procs_are t = refl

pub few_processes : (t : Tree) (p : Program) → Resolves t p → length p.procs ≤ most_processes
few_processes t p r =
    let all = few t 0 t.main (omega arith) (main_within t r.within) in
    subst (λ n. n ≤ most_processes) (sym (ap (λ (z : Program). length z.procs) r.becomes ∙ ap length (procs_are t))) (omega (arith, all))

-- so each has a number of 16 bits
pub process_numbers : (t : Tree) (p : Program) → Resolves t p → length p.procs < 2 ^ 16
process_numbers t p r = omega (arith, few_processes t p r, most_is)
