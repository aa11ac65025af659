-- Cores and the worlds that they stand for, by their numbers.
use Rattle.std.proofs.Common.{◌≡◌, refl, sym, subst, ℕ, zero, suc, ◌+◌, ◌≤◌, true, false, List, [], ◌∷◌, ◌++◌, length, map, arith, ap, ◌∙◌}
use Rattle.std.specs.Prelude.{Option, Some, None, is_some, slice_get, slice_set}
use Rattle.std.specs.List.{range_with_len}
use Rattle.std.proofs.lemmas.Bool.{false≢true}
use Rattle.std.proofs.lemmas.Option.{slice_get_within}
use Rattle.da_lang.specs.declared.program.Program.{Program}
use Rattle.da_lang.specs.World.{World, at_number, opening}
use Rattle.da_core.specs.declared.process.Core.{Core}
use Rattle.da_core.specs.StandsFor.{StandsFor}
use Rattle.da_core.specs.StandsFor as process
use Rattle.da_core.specs.declared.compiled.Compiled.{Compiled}
use Rattle.da_core.specs.Compiled.{IsCompiled}
use Rattle.da_core.specs.Compiled as compiled
use Rattle.da_system.specs.declared.network.Network.{Network}
use Rattle.da_system.specs.Channels.{no_messages, put_numbered}
use Rattle.da_system.specs.Queues as queues
use Rattle.da_system.specs.SoundState.{IsSoundState}
use Rattle.da_system.specs.Network.{StandFrom, Stands, StandsAt, program_of}
use Rattle.da_system.specs.SystemStep.{SystemState, start}
use Rattle.da_system.proofs.AcceptedStates.{sound_start}
use Rattle.da_system.proofs.SystemLaws.{length-opened}

module _ (program : Program) where
  -- a core has its world at the same place, and where there is no core there is no world
  stand_get : (first : ℕ) (cores : List Core) (ws : List World) (k : ℕ) (core : Core) → StandFrom program first cores ws → slice_get cores k ≡ Some core
      → (w : World) × (slice_get ws k ≡ Some w) × StandsAt program (first + k) core w
  stand_get first [] ws k core stand there = absurd (false≢true (ap is_some there))
  stand_get first (c ∷ cores) [] k core stand there = absurd stand
  stand_get first (c ∷ cores) (w ∷ ws) zero core stand there =
      let same : c ≡ core = cc in
      (w, refl, subst (λ x. StandsAt program (first + 0) x w) same (subst (λ n. StandsAt program n c w) (let here : first ≡ first + 0 = omega arith in here) stand.0))
  stand_get first (c ∷ cores) (w ∷ ws) (suc k) core stand there =
      let (v, is, at) = stand_get (first + 1) cores ws k core stand.1 there in
      (v, is, subst (λ n. StandsAt program n core v) (let next : first + 1 + k ≡ first + suc k = omega arith in next) at)

  stand_none : (first : ℕ) (cores : List Core) (ws : List World) (k : ℕ) → StandFrom program first cores ws → slice_get cores k ≡ None → slice_get ws k ≡ None
  stand_none first [] [] k stand none = refl
  stand_none first [] (w ∷ ws) k stand none = absurd stand
  stand_none first (c ∷ cores) [] k stand none = refl
  stand_none first (c ∷ cores) (w ∷ ws) zero stand none = absurd (false≢true (sym (ap is_some none)))
  stand_none first (c ∷ cores) (w ∷ ws) (suc k) stand none = stand_none (first + 1) cores ws k stand.1 none

  stand_set : (first : ℕ) (cores : List Core) (ws : List World) (k : ℕ) (core : Core) (w : World) → StandFrom program first cores ws → StandsAt program (first + k) core w
      → StandFrom program first (slice_set cores k core) (slice_set ws k w)
  stand_set first [] [] k core w stand at = tt
  stand_set first [] (v ∷ ws) k core w stand at = absurd stand
  stand_set first (c ∷ cores) [] k core w stand at = absurd stand
  stand_set first (c ∷ cores) (v ∷ ws) zero core w stand at = (subst (λ n. StandsAt program n core w) (let here : first + 0 ≡ first = omega arith in here) at, stand.1)
  stand_set first (c ∷ cores) (v ∷ ws) (suc k) core w stand at =
      (stand.0, stand_set (first + 1) cores ws k core w stand.1 (subst (λ n. StandsAt program n core w) (let next : first + suc k ≡ first + 1 + k = omega arith in next) at))

  stand_length : (first : ℕ) (cores : List Core) (ws : List World) → StandFrom program first cores ws → length cores ≡ length ws
  stand_length first [] [] stand = refl
  stand_length first [] (w ∷ ws) stand = absurd stand
  stand_length first (c ∷ cores) [] stand = absurd stand
  stand_length first (c ∷ cores) (w ∷ ws) stand = ap suc (stand_length (first + 1) cores ws stand.1)

  -- the same by numbers
  pub core_at : (cores : List Core) (ws : List World) (p : ℕ) (core : Core) → StandFrom program 1 cores ws → at_number cores p ≡ Some core
      → (w : World) × (at_number ws p ≡ Some w) × StandsAt program p core w
  core_at cores ws zero core stand there = absurd (false≢true (ap is_some there))
  core_at cores ws (suc place) core stand there =
      let (w, is, at) = stand_get 1 cores ws place core stand there in
      (w, is, subst (λ n. StandsAt program n core w) (let here : 1 + place ≡ suc place = omega arith in here) at)

  pub none_at : (cores : List Core) (ws : List World) (p : ℕ) → StandFrom program 1 cores ws → at_number cores p ≡ None → at_number ws p ≡ None
  none_at cores ws zero stand none = refl
  none_at cores ws (suc place) stand none = stand_none 1 cores ws place stand none

  pub core_put : (cores : List Core) (ws : List World) (p : ℕ) (core : Core) (w : World) → StandFrom program 1 cores ws → StandsAt program p core w
      → StandFrom program 1 (put_numbered cores p core) (put_numbered ws p w)
  core_put cores ws zero core w stand at = stand
  core_put cores ws (suc place) core w stand at = stand_set 1 cores ws place core w stand (subst (λ n. StandsAt program n core w) (let here : suc place ≡ 1 + place = omega arith in here) at)

  -- there is a world where there is a core
  there_at : (cores : List Core) (ws : List World) (p : ℕ) (found : Option Core) → StandFrom program 1 cores ws → at_number cores p ≡ found → is_some (at_number ws p) ≡ is_some found
  there_at cores ws p None stand is = ap is_some (none_at cores ws p stand is)
  there_at cores ws p (Some core) stand is = let (w, there, at) = core_at cores ws p core stand is in ap is_some there

  pub world_there : (cores : List Core) (ws : List World) (p : ℕ) → StandFrom program 1 cores ws → is_some (at_number ws p) ≡ is_some (at_number cores p)
  world_there cores ws p stand = there_at cores ws p (at_number cores p) stand refl

  -- THE OPENING: new processes, one after the other

  opened_from : (first n : ℕ) (cores : List Core) (core : Core) → StandFrom program first cores (map (opening program) (range_with_len first n)) → StandsAt program (first + n) core (opening program (first + n))
      → StandFrom program first (cores ++ core ∷ []) (map (opening program) (range_with_len first (suc n)))
  opened_from first zero [] core stand at = (subst (λ k. StandsAt program k core (opening program k)) (let here : first + 0 ≡ first = omega arith in here) at, tt)
  opened_from first zero (c ∷ cores) core stand at = absurd stand
  opened_from first (suc n) [] core stand at = absurd stand
  opened_from first (suc n) (c ∷ cores) core stand at =
      (stand.0, opened_from (first + 1) n cores core stand.1 (subst (λ k. StandsAt program k core (opening program k)) (let next : first + suc n ≡ first + 1 + n = omega arith in next) at))

  pub opened_more : (n me : ℕ) (cores : List Core) (core : Core) → me ≡ n + 1 → process.program_of core ≡ program → StandsFor core (opening program me) → StandFrom program 1 cores (map (opening program) (range_with_len 1 n))
      → StandFrom program 1 (cores ++ core ∷ []) (map (opening program) (range_with_len 1 (n + 1)))
  opened_more n me cores core is same stands stand =
      let here : me ≡ 1 + n = omega (arith, is) in
      let at : StandsAt program me core (opening program me) = record { same = same; number = refl; stands = stands } in
      subst (λ k. StandFrom program 1 (cores ++ core ∷ []) (map (opening program) (range_with_len 1 k))) (let next : suc n ≡ n + 1 = omega arith in next)
      (opened_from 1 n cores core stand (subst (λ k. StandsAt program k core (opening program k)) here at))

-- a network stands for the state before any event, where each core is that of a new process and nothing is in flight
pub opened_stands : (network : Network) (n : ℕ) → network.spent ≡ false → IsCompiled network.compiled.now → n ≡ length (program_of network).procs
    → StandFrom (program_of network) 1 network.cores.items (map (opening (program_of network)) (range_with_len 1 n))
    → queues.count_of network.channels ≡ length (program_of network).procs → queues.StandsFor network.channels (no_messages (length (program_of network).procs)) → Stands network (start (program_of network))
opened_stands network n unspent compiled all stand count channels =
    let here : StandFrom (program_of network) 1 network.cores.items (map (opening (program_of network)) (range_with_len 1 (length (program_of network).procs))) =
    subst (λ k. StandFrom (program_of network) 1 network.cores.items (map (opening (program_of network)) (range_with_len 1 k))) all stand in
    record {
      unspent = unspent;
      compiled = compiled;
      sound = sound_start (program_of network) compiled.accepted;
      each = stand_length (program_of network) 1 network.cores.items _ here ∙ length-opened (program_of network) 1 (length (program_of network).procs);
      cores = here;
      count = count;
      channels = channels;
    }

-- what stands beside the flag, the cores and the channels is the same
pub stands_on : (network left : Network) (s next : SystemState) → Stands network s → left.spent ≡ false → left.compiled.now ≡ network.compiled.now → IsSoundState (program_of network) next
    → length left.cores.items ≡ length network.cores.items → StandFrom (program_of network) 1 left.cores.items next.worlds
    → queues.count_of left.channels ≡ queues.count_of network.channels → queues.StandsFor left.channels next.channels → Stands left next
stands_on network left s next stands unspent same sound many cores count channels = record {
  unspent = unspent;
  compiled = subst IsCompiled (sym same) stands.compiled;
  sound = subst (λ (c : Compiled). IsSoundState (compiled.program_of c) next) (sym same) sound;
  each = many ∙ stands.each ∙ ap (λ (c : Compiled). length (compiled.program_of c).procs) (sym same);
  cores = subst (λ (c : Compiled). StandFrom (compiled.program_of c) 1 left.cores.items next.worlds) (sym same) cores;
  count = count ∙ stands.count ∙ ap (λ (c : Compiled). length (compiled.program_of c).procs) (sym same);
  channels = channels;
}

-- the number of a core that is there is not greater than the number of cores
pub within : (cores : List Core) (p : ℕ) → is_some (at_number cores p) ≡ true → p ≤ length cores
within cores zero there = omega arith
within cores (suc place) there = of (slice_get cores place) refl there
  where
    of : (found : Option Core) → slice_get cores place ≡ found → is_some found ≡ true → suc place ≤ length cores
    of None is some = absurd (false≢true some)
    of (Some core) is some = omega (arith, slice_get_within cores place core is)
