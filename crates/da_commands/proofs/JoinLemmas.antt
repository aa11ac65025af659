-- The replies of `join`.
use Rattle.std.proofs.Common.{◌≡◌, refl, sym, ◌∙◌, ap, subst, ℕ, zero, suc, ◌+◌, ◌<◌, ◌≤◌, inl, inr, ◌⊎◌, List, [], ◌∷◌, ◌++◌, length, map, take, drop, get_or, arith, rules, drop-cons, take-append-drop, take_all, Global, String}
use Rattle.std.specs.Prelude.{Option, Some, None, Result, Ok, Err, IsErrOf, slice_get}
use Rattle.std.specs.List.{All, AllByRecursion, AllZip}
use Rattle.std.specs.String.{string_bytes}
use Rattle.std.proofs.lemmas.List.{length-take-le, map-append}
use Rattle.std.proofs.lemmas.List.Elements.{All-cons, All-nil, All-weaker}
use Rattle.std.proofs.Math.Seq.{take-suc}
use Rattle.da_lang.specs.declared.event.Action.{Action}
use Rattle.da_lang.specs.declared.event.Event.{Event}
use Rattle.da_lang.specs.declared.event.Event.TheVariants.{Move, Take, Timeout, Deliver, Lose, Repeat, Show, Stat}
use Rattle.da_lang.specs.declared.program.Program.{Program}
use Rattle.da_lang.specs.World.{at_number}
use Rattle.da_outside.specs.declared.outside.Trouble.{Trouble}
use Rattle.da_outside.specs.declared.outside.Trouble.TheVariants.{Failed}
use Rattle.da_outside.specs.Outside.{IsWhole, Rose}
use Rattle.da_values.specs.Sets.{Has}
use Rattle.sched_text.specs.EventText.{HasNames, IsNamed}
use Rattle.sched_text.specs.TraceText.{AllOf, IsBadTrace, SpellsTrace, trace_limit}
use Rattle.trace_join.specs.Joins.{AreTraces}
use Rattle.trace_join.specs.Names.{IsNameable}
use Rattle.da_commands.specs.declared.joining.TracesFault.{TracesFault}
use Rattle.da_commands.specs.declared.joining.TracesFault.TheVariants as fault
use Rattle.da_front.specs.declared.refusal.RefusedKind.{RefusedKind}
use Rattle.da_commands.specs.declared.status.Status.{Status}
use Rattle.da_commands.specs.declared.status.Status.TheVariants.{Memory, ReadFault, WriteFault}
use Rattle.da_commands.specs.JoinReplies.{IsJoin, IsJoined, IsEarliestBad, JoinReply, SpellTraces, bad, good}
use Rattle.da_commands.specs.JoinSteps.{AddsTrace, AreRead, AreWhole, IsNoTrace}
use Rattle.da_commands.specs.Replies.{IsAnswer, IsEnd, MayReadTraces, TraceReadCause}
use Rattle.da_commands.specs.Told.{Begins, Gains, HasReplied, OfAllTold, OfTold}
use Rattle.da_front.specs.Verdict.{Accepts, IsRefused, program_limit}
use Rattle.da_commands.proofs.ToldLemmas.{begins_nothing, begun_replied, of_any, of_map, of_read, quiet_answer, quiet_replied, take_beyond, take_within, whole_replied}

-- THE TEXTS THAT ARE TOLD

-- what holds of any so many texts
pub of_all_any : (tolds : List (Option (List ℕ))) (P : List (List ℕ) → Type 0) → ((texts : List (List ℕ)) → length texts ≡ length tolds → P texts) → OfAllTold tolds P
of_all_any [] P every = every [] refl
of_all_any (told ∷ tolds) P every = of_any told _ (λ text. of_all_any tolds _ (λ texts same. every (text ∷ texts) (ap suc same)))

pub of_all_map : (tolds : List (Option (List ℕ))) (P Q : List (List ℕ) → Type 0) → ((texts : List (List ℕ)) → P texts → Q texts) → OfAllTold tolds P → OfAllTold tolds Q
of_all_map [] P Q go holds = go [] holds
of_all_map (told ∷ tolds) P Q go holds = of_map told _ _ (λ text. of_all_map tolds (λ texts. P (text ∷ texts)) (λ texts. Q (text ∷ texts)) (λ texts. go (text ∷ texts))) holds

-- what holds of the texts of which those that were read are prefixes
pub of_all_read : (tolds : List (Option (List ℕ))) (P : List (List ℕ) → Type 0) (limit : ℕ) (texts : List (List ℕ)) → AreWhole limit tolds texts
    → ((wholes : List (List ℕ)) → texts ≡ map (take (limit + 1)) wholes → P wholes) → OfAllTold tolds P
of_all_read [] P limit [] whole holds = holds [] refl
of_all_read [] P limit (text ∷ texts) whole holds = absurd whole
of_all_read (told ∷ tolds) P limit [] whole holds = absurd whole
of_all_read (told ∷ tolds) P limit (text ∷ texts) (is, others) holds =
    of_read told _ limit text is (λ whole same. of_all_read tolds (λ wholes. P (whole ∷ wholes)) limit texts others
    (λ wholes rest. holds (whole ∷ wholes) (ap (λ x. x ∷ texts) same ∙ ap (λ xs. take (limit + 1) whole ∷ xs) rest)))

-- one text more was read
pub whole_on : (limit : ℕ) (tolds : List (Option (List ℕ))) (texts : List (List ℕ)) (told : Option (List ℕ)) (text : List ℕ) → AreWhole limit tolds texts → IsWhole told limit text
    → AreWhole limit (tolds ++ told ∷ []) (texts ++ text ∷ [])
whole_on limit [] [] told text whole is = (is, tt)
whole_on limit [] (x ∷ xs) told text whole is = absurd whole
whole_on limit (o ∷ os) [] told text whole is = absurd whole
whole_on limit (o ∷ os) (x ∷ xs) told text (first, others) is = (first, whole_on limit os xs told text others is)

-- BY THE STATUS

module _ (one : Option (List ℕ)) (tolds : List (Option (List ℕ))) (status : Status) (before after : Option (List ℕ))
    (replies : OfTold one (λ t. OfAllTold tolds (λ texts. HasReplied (JoinReply t texts) status before after))) where
  pub join_whole : IsAnswer status → OfTold one (λ t. OfAllTold tolds (λ texts. Gains (JoinReply t texts) status before after))
  join_whole answer =
      of_map one _ _ (λ t. of_all_map tolds (λ texts. HasReplied (JoinReply t texts) status before after) (λ texts. Gains (JoinReply t texts) status before after)
      (λ texts. whole_replied (JoinReply t texts) before after status answer)) replies

  pub join_begun : (IsAnswer status → ⊥) → OfTold one (λ t. OfAllTold tolds (λ texts. Begins (JoinReply t texts) before after))
  join_begun never =
      of_map one _ _ (λ t. of_all_map tolds (λ texts. HasReplied (JoinReply t texts) status before after) (λ texts. Begins (JoinReply t texts) before after)
      (λ texts. begun_replied (JoinReply t texts) before after status never)) replies

pub is_joined : (one : Option (List ℕ)) (tolds : List (Option (List ℕ))) (status : Status) (before after : Option (List ℕ)) → IsEnd status → (status ≡ ReadFault → ⊥) → (status ≡ WriteFault → ⊥)
    → OfTold one (λ t. OfAllTold tolds (λ texts. HasReplied (JoinReply t texts) status before after)) → IsJoined one tolds status before after
is_joined one tolds status before after ends read write replies = by_answer (quiet_answer status ends read write)
  where
    by_answer : (status ≡ Memory) ⊎ IsAnswer status → IsJoined one tolds status before after
    by_answer (inl memory) = inl memory
    by_answer (inr answer) = inr (join_whole one tolds status before after replies answer)

-- TRACES THAT WERE READ

spelled_within : (p : ℕ) (whole : List ℕ) (trace : List Action) → SpellsTrace p (take (trace_limit + 1) whole) trace → SpellsTrace p whole trace
spelled_within p whole trace spelled = subst (λ x. SpellsTrace p x trace) (take_within trace_limit (take (trace_limit + 1) whole) whole refl spelled.size) spelled

bad_within : (p : ℕ) (whole : List ℕ) (line : ℕ) → IsBadTrace p (take (trace_limit + 1) whole) line → IsBadTrace p whole line
bad_within p whole line (inl long) = inl (take_beyond trace_limit (take (trace_limit + 1) whole) whole refl long.0, long.1)
bad_within p whole line (inr wrong) = subst (λ x. IsBadTrace p x line) (take_within trace_limit (take (trace_limit + 1) whole) whole refl wrong.0) (inr wrong)

-- so it is for texts of which parts were read, where it is for each of them
module _ (front : List ℕ → List ℕ) (spells : (p : ℕ) (whole : List ℕ) (trace : List Action) → SpellsTrace p (front whole) trace → SpellsTrace p whole trace)
    (wrong : (p : ℕ) (whole : List ℕ) (line : ℕ) → IsBadTrace p (front whole) line → IsBadTrace p whole line) where
  fronts_spelled : (p : ℕ) (wholes : List (List ℕ)) (traces : List (List Action)) → SpellTraces p (map front wholes) traces → SpellTraces p wholes traces
  fronts_spelled p [] [] spelled = tt
  fronts_spelled p [] (trace ∷ traces) spelled = absurd spelled
  fronts_spelled p (whole ∷ wholes) [] spelled = absurd spelled
  fronts_spelled p (whole ∷ wholes) (trace ∷ traces) (first, others) = (spells p whole trace first, fronts_spelled (p + 1) wholes traces others)

  fronts_bad : (p : ℕ) (wholes : List (List ℕ)) (q line : ℕ) → IsEarliestBad p (map front wholes) q line → IsEarliestBad p wholes q line
  fronts_bad p [] q line never = elim never [ ]
  fronts_bad p (whole ∷ wholes) _ _ (bad _ _ _ line is) = bad p whole wholes line (wrong p whole line is)
  fronts_bad p (whole ∷ wholes) _ _ (good _ _ trace _ q line spelled later) = good p whole trace wholes q line (spells p whole trace spelled) (fronts_bad (p + 1) wholes q line later)

module _ (texts wholes : List (List ℕ)) (are : texts ≡ map (take (trace_limit + 1)) wholes) where
  pub spell_wholes : (traces : List (List Action)) → SpellTraces 1 texts traces → SpellTraces 1 wholes traces
  spell_wholes traces spelled = fronts_spelled (take (trace_limit + 1)) spelled_within bad_within 1 wholes traces (subst (λ xs. SpellTraces 1 xs traces) are spelled)

  pub bad_wholes : (q line : ℕ) → IsEarliestBad 1 texts q line → IsEarliestBad 1 wholes q line
  bad_wholes q line is = fronts_bad (take (trace_limit + 1)) spelled_within bad_within 1 wholes q line (subst (λ xs. IsEarliestBad 1 xs q line) are is)

-- THE LOOP THAT READS THEM

spelled_on : (p : ℕ) (texts : List (List ℕ)) (traces : List (List Action)) (text : List ℕ) (trace : List Action) → SpellTraces p texts traces → SpellsTrace (p + length texts) text trace
    → SpellTraces p (texts ++ text ∷ []) (traces ++ trace ∷ [])
spelled_on p [] [] text trace spelled is = (subst (λ n. SpellsTrace n text trace) (omega (arith)) is, tt)
spelled_on p [] (y ∷ ys) text trace spelled is = absurd spelled
spelled_on p (x ∷ xs) [] text trace spelled is = absurd spelled
spelled_on p (x ∷ xs) (y ∷ ys) text trace (first, others) is =
    let moved : p + length (x ∷ xs) ≡ p + 1 + length xs = omega (arith) in
    (first, spelled_on (p + 1) xs ys text trace others (subst (λ n. SpellsTrace n text trace) moved is))

bad_after : (p : ℕ) (texts : List (List ℕ)) (traces : List (List Action)) (text : List ℕ) (after : List (List ℕ)) (q line : ℕ) → SpellTraces p texts traces → q ≡ p + length texts → IsBadTrace q text line
    → IsEarliestBad p (texts ++ text ∷ after) q line
bad_after p [] [] text after q line spelled is wrong =
    let same : q ≡ p = omega (arith, is) in
    subst (λ n. IsEarliestBad p (text ∷ after) n line) (sym same) (bad p text after line (subst (λ n. IsBadTrace n text line) same wrong))
bad_after p [] (y ∷ ys) text after q line spelled is wrong = absurd spelled
bad_after p (x ∷ xs) [] text after q line spelled is wrong = absurd spelled
bad_after p (x ∷ xs) (y ∷ ys) text after q line (first, others) is wrong =
    let moved : q ≡ p + 1 + length xs = omega (arith, is) in
    good p x y (xs ++ text ∷ after) q line first (bad_after (p + 1) xs ys text after q line others moved wrong)

few_on : (traces : List (List Action)) (trace : List Action) → AllByRecursion (λ (t : List Action). length t ≤ trace_limit) traces → length trace ≤ trace_limit
    → AllByRecursion (λ (t : List Action). length t ≤ trace_limit) (traces ++ trace ∷ [])
few_on [] trace all few = (few, tt)
few_on (x ∷ xs) trace (first, others) few = (first, few_on xs trace others few)

-- THEY ARE TRACES OF THE PROGRAM

spelled_count : (p : ℕ) (texts : List (List ℕ)) (traces : List (List Action)) → SpellTraces p texts traces → length traces ≡ length texts
spelled_count p [] [] spelled = refl
spelled_count p [] (y ∷ ys) spelled = absurd spelled
spelled_count p (x ∷ xs) [] spelled = absurd spelled
spelled_count p (x ∷ xs) (y ∷ ys) (first, others) = ap suc (spelled_count (p + 1) xs ys others)

spelled_own : (p : ℕ) (texts : List (List ℕ)) (traces : List (List Action)) → SpellTraces p texts traces → (k : ℕ) (trace : List Action) → slice_get traces k ≡ Some trace → AllOf (p + k) trace
spelled_own p [] [] spelled k trace at = absurd (let clash : None ≡ Some trace = at in cc)
spelled_own p [] (y ∷ ys) spelled k trace at = absurd spelled
spelled_own p (x ∷ xs) [] spelled k trace at = absurd spelled
spelled_own p (x ∷ xs) (y ∷ ys) (first, others) zero trace at =
    let same : y ≡ trace = (let here : Some y ≡ Some trace = at in cc) in
    let here : p ≡ p + 0 = omega (arith) in
    subst (λ n. AllOf n trace) here (subst (AllOf p) same first.own)
spelled_own p (x ∷ xs) (y ∷ ys) (first, others) (suc k) trace at =
    let moved : p + 1 + k ≡ p + suc k = omega (arith) in
    subst (λ n. AllOf n trace) moved (spelled_own (p + 1) xs ys others k trace at)

few_at : (traces : List (List Action)) → AllByRecursion (λ (t : List Action). length t ≤ trace_limit) traces → (k : ℕ) (trace : List Action) → slice_get traces k ≡ Some trace → length trace ≤ trace_limit
few_at [] all k trace at = absurd (let clash : None ≡ Some trace = at in cc)
few_at (x ∷ xs) (first, others) zero trace at = let same : x ≡ trace = (let here : Some x ≡ Some trace = at in cc) in subst (λ (t : List Action). length t ≤ trace_limit) same first
few_at (x ∷ xs) (first, others) (suc k) trace at = few_at xs others k trace at

pub are_traces : (program : Program) (texts : List (List ℕ)) (traces : List (List Action)) → length texts ≡ length program.procs → SpellTraces 1 texts traces
    → AllByRecursion (λ (t : List Action). length t ≤ trace_limit) traces → AreTraces program traces
are_traces program texts traces count spelled few = record { count = spelled_count 1 texts traces spelled ∙ count; own = own; few = small }
  where
    own : (p : ℕ) (trace : List Action) → at_number traces p ≡ Some trace → AllOf p trace
    own zero trace at = absurd (let clash : None ≡ Some trace = at in cc)
    own (suc k) trace at = subst (λ n. AllOf n trace) (omega (arith)) (spelled_own 1 texts traces spelled k trace at)

    small : (p : ℕ) (trace : List Action) → at_number traces p ≡ Some trace → length trace ≤ trace_limit
    small zero trace at = absurd (let clash : None ≡ Some trace = at in cc)
    small (suc k) trace at = few_at traces few k trace at

-- EVENTS THAT A SCHEDULE CAN NAME

one_named : (p : ℕ) → IsNamed p → All IsNamed (p ∷ [])
one_named p named = All-cons IsNamed p [] named (All-nil IsNamed)

three_named : (p q i : ℕ) → IsNamed p × IsNamed q × IsNamed i → All IsNamed (p ∷ q ∷ i ∷ [])
three_named p q i named = All-cons IsNamed p (q ∷ i ∷ []) named.0 (All-cons IsNamed q (i ∷ []) named.1 (one_named i named.2))

has_names : (e : Event) → IsNameable e → HasNames e
has_names (Move p) named = one_named p named
has_names (Take p k) named = All-cons IsNamed p (k ∷ []) named.0 (one_named k named.1)
has_names (Timeout p) named = one_named p named
has_names (Deliver p q i) named = three_named p q i named
has_names (Lose p q i) named = three_named p q i named
has_names (Repeat p q i) named = three_named p q i named
has_names (Show p) named = one_named p named
has_names (Stat p) named = one_named p named

pub have_names : (events : List Event) → All IsNameable events → All HasNames events
have_names events named = All-weaker IsNameable HasNames has_names events named

-- NOTHING WAS DONE

pub none_begun_join : (t : List ℕ) (tolds : List (Option (List ℕ))) (x : Option (List ℕ)) → OfAllTold tolds (λ texts. Begins (JoinReply t texts) x x)
none_begun_join t tolds x = of_all_any tolds _ (λ texts same. begins_nothing (JoinReply t texts) x)

pub none_joined : (told : Option (List ℕ)) (tolds : List (Option (List ℕ))) (x : Option (List ℕ)) → OfTold told (λ t. OfAllTold tolds (λ texts. Begins (JoinReply t texts) x x))
none_joined told tolds x = of_any told _ (λ t. none_begun_join t tolds x)

-- THE NAMES

-- what files tell of names stays
pub told_same : (before now : List ℕ → Option (List ℕ)) (names : List (String Global)) → ((x : List ℕ) → now x ≡ before x)
    → map (λ name. now (string_bytes name)) names ≡ map (λ name. before (string_bytes name)) names
told_same before now [] same = refl
told_same before now (name ∷ names) same =
    ap (λ o. o ∷ map (λ n. now (string_bytes n)) names) (same (string_bytes name))
    ∙ ap (λ os. before (string_bytes name) ∷ os) (told_same before now names same)

pub told_names : (told : List ℕ → Option (List ℕ)) (names : List (String Global)) → map (λ name. told (string_bytes name)) names ≡ map told (map string_bytes names)
told_names told [] = refl
told_names told (name ∷ names) = ap (λ os. told (string_bytes name) ∷ os) (told_names told names)

pub named_by : (names : List (String Global)) → length (map string_bytes names) ≡ length names
named_by [] = refl
named_by (name ∷ names) = ap suc (named_by names)

-- as many texts are read as names are told
pub texts_count : (limit : ℕ) (told : List ℕ → Option (List ℕ)) (names : List (String Global)) (texts : List (List ℕ)) → AreWhole limit (map (λ name. told (string_bytes name)) names) texts → length texts ≡ length names
texts_count limit told [] [] whole = refl
texts_count limit told [] (text ∷ texts) whole = absurd whole
texts_count limit told (name ∷ names) [] whole = absurd whole
texts_count limit told (name ∷ names) (text ∷ texts) (is, others) = ap suc (texts_count limit told names texts others)

pub told_count : (told : List ℕ → Option (List ℕ)) (names : List (String Global)) → length (map (λ name. told (string_bytes name)) names) ≡ length names
told_count told [] = refl
told_count told (name ∷ names) = ap suc (told_count told names)

pub fronts_count : (limit : ℕ) (wholes : List (List ℕ)) → length (map (take (limit + 1)) wholes) ≡ length wholes
fronts_count limit [] = refl
fronts_count limit (whole ∷ wholes) = ap suc (fronts_count limit wholes)

-- the traces were read, so the program is not refused, and has as many processes
pub may_read_traces : (told : Option (List ℕ)) (text : List ℕ) (names : List (String Global)) → IsWhole told program_limit text
    → ((t : List ℕ) → text ≡ take (program_limit + 1) t → (IsRefused t → ⊥) × ((program : Program) → Accepts t program → length names ≡ length program.procs))
    → MayReadTraces told (length (map string_bytes names))
may_read_traces None text names whole may = tt
may_read_traces (Some t) text names whole may =
    let (never, count) = may t whole in
    (never, λ program accepts. named_by names ∙ count program accepts)

-- the name of one of them
pub has_name : (names : List (String Global)) (i : ℕ) (name : String Global) → i < length names → name ≡ get_or names i name → Has (map string_bytes names) (string_bytes name)
has_name [] i name inside is = absurd (omega (arith, inside))
has_name (first ∷ names) zero name inside is = inl (ap string_bytes is)
has_name (first ∷ names) (suc i) name inside is = inr (has_name names i name (omega (arith, inside)) is)

-- A TEXT MORE IS READ

module _ (limit : ℕ) (told : List ℕ → Option (List ℕ)) (names : List (String Global)) (i : ℕ) (name : String Global) (inside : i < length names) (is : name ≡ get_or names i name) where
  pub name_taken : take (i + 1) names ≡ take i names ++ name ∷ []
  name_taken =
      let next : i + 1 ≡ suc i = omega (arith) in
      ap (λ n. take n names) next ∙ take-suc names i name inside ∙ ap (λ x. take i names ++ x ∷ []) (sym is)

  pub texts_on : (texts : List (List ℕ)) (text : List ℕ) → AreWhole limit (map (λ n. told (string_bytes n)) (take i names)) texts → IsWhole (told (string_bytes name)) limit text
      → AreWhole limit (map (λ n. told (string_bytes n)) (take (i + 1) names)) (texts ++ text ∷ [])
  texts_on texts text whole more =
      let split : map (λ n. told (string_bytes n)) (take (i + 1) names) ≡ map (λ n. told (string_bytes n)) (take i names) ++ told (string_bytes name) ∷ [] =
      ap (map (λ n. told (string_bytes n))) name_taken ∙ map-append (λ n. told (string_bytes n)) (take i names) (name ∷ []) in
      subst (λ os. AreWhole limit os (texts ++ text ∷ [])) (sym split) (whole_on limit (map (λ n. told (string_bytes n)) (take i names)) texts (told (string_bytes name)) text whole more)

-- A TRACE MORE IS READ

module _ (texts : List (List ℕ)) (i : ℕ) (text : List ℕ) (inside : i < length texts) (is : text ≡ get_or texts i text) (process : ℕ) (counted : process ≡ i + 1) where
  text_taken : take (i + 1) texts ≡ take i texts ++ text ∷ []
  text_taken =
      let next : i + 1 ≡ suc i = omega (arith) in
      ap (λ n. take n texts) next ∙ take-suc texts i text inside ∙ ap (λ x. take i texts ++ x ∷ []) (sym is)

  -- it is that of the process
  place_is : process ≡ 1 + length (take i texts)
  place_is = omega (arith, counted, length-take-le i texts (omega (arith, inside)))

  pub read_on : (old new : List (List Action)) → AreRead (take i texts) (Ok old) → AddsTrace process text old new → AreRead (take (i + 1) texts) (Ok new)
  read_on old new read adds =
      let spelled : SpellTraces 1 (take i texts ++ text ∷ []) (old ++ adds.trace ∷ []) = spelled_on 1 (take i texts) old text adds.trace read.0 (subst (λ n. SpellsTrace n text adds.trace) place_is adds.spelled) in
      let few : AllByRecursion (λ (t : List Action). length t ≤ trace_limit) (old ++ adds.trace ∷ []) = few_on old adds.trace read.1 adds.few in
      subst (λ xs. AreRead xs (Ok new)) (sym text_taken) (subst (λ traces. AreRead (take i texts ++ text ∷ []) (Ok traces)) (sym adds.is) (spelled, few))

  pub read_bad : (old : List (List Action)) (fault : TracesFault) → AreRead (take i texts) (Ok old) → IsNoTrace process text fault → AreRead texts (Err fault)
  read_bad old fault.Memory read wrong = tt
  read_bad old (fault.BadLine q line) read (same, wrong) =
      let split : take i texts ++ text ∷ drop (suc i) texts ≡ texts =
      sym (ap (λ l. take i texts ++ l) (drop-cons texts i text inside ∙ ap (λ x. x ∷ drop (suc i) texts) (sym is))) ∙ take-append-drop i texts in
      subst (λ xs. IsEarliestBad 1 xs q line) split (bad_after 1 (take i texts) old text (drop (suc i) texts) q line read.0 (same ∙ place_is) (subst (λ n. IsBadTrace n text line) (sym same) wrong))

pub read_whole : (texts : List (List ℕ)) (i : ℕ) (traces : List (List Action)) → length texts ≤ i → AreRead (take i texts) (Ok traces) → AreRead texts (Ok traces)
read_whole texts i traces over read = subst (λ xs. AreRead xs (Ok traces)) (take_all i texts over) read

-- where a read did not fail, its count stayed
not_failed : {A : Type 0} (result : Result A Trouble) (x : A) → result ≡ Ok x → result ≡ Err Failed → ⊥
not_failed {A} result x is failed = let bad : ◌≡◌ {A = Result A Trouble} (Ok x) (Err Failed) = sym is ∙ failed in cc

-- a failure of one call is that of another
pub err_as : {A B : Type 0} (trouble : Trouble) → ◌≡◌ {A = Result A Trouble} (Err trouble) (Err Failed) → ◌≡◌ {A = Result B Trouble} (Err trouble) (Err Failed)
err_as trouble is = let same : trouble ≡ Failed = cc in ap (λ t. Err t) same

pub stays : {A : Type 0} (result : Result A Trouble) (x : A) (before now : ℕ) → result ≡ Ok x → before ≤ now → (before < now → IsErrOf result Failed) → now ≡ before
stays result x before now is later rises =
    let none : before < now → ⊥ = λ below. not_failed result x is (rises below) in
    omega (arith, none, later)

-- FROM THE NAMES IN THE WORDS

pub at_join : (P : List ℕ → List (List ℕ) → Type 0) (p a : List ℕ) (traces names : List (List ℕ)) → (p ≡ a) × (traces ≡ names) → P a names → P p traces
at_join P p a traces names same holds = subst (P p) (sym same.1) (subst (λ x. P x names) (sym same.0) holds)

pub not_read_join : (told : Option (List ℕ)) (before now : List ℕ → ℕ) (program : List ℕ) (traces : List (List ℕ)) → TraceReadCause told before now program traces
    → (Rose (before program) (now program) → ⊥) → ((x : List ℕ) → Has traces x → Rose (before x) (now x) → ⊥) → ⊥
not_read_join told before now program traces (inl rose) quiet quiet_traces = quiet rose
not_read_join told before now program traces (inr (name, has, rose, may)) quiet quiet_traces = quiet_traces name has rose
