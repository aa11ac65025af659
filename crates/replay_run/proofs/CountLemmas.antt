-- The counts of actions.
use Rattle.std.proofs.Common.{◌≡◌, sym, ◌∙◌, ap, subst, ℕ, zero, suc, ◌+◌, ◌*◌, ◌-◌, ◌^◌, ◌<◌, ◌≤◌, Bool, true, false, List, [], ◌∷◌, ◌++◌, take, arith, append-nil, append_assoc}
use Rattle.std.specs.Prelude.{Some, count_by, is_some, slice_get}
use Rattle.std.proofs.lemmas.Bool.{false≢true}
use Rattle.std.proofs.lemmas.List.Sums.{sum_by_push}
use Rattle.da_lang.specs.declared.event.Action.{Action}
use Rattle.da_system.specs.StressRun.{is_end, is_fault, is_got, is_out, is_sent, is_took}
use Rattle.replay_run.specs.declared.counts.Counts.{Counts}
use Rattle.replay_run.specs.Stress.{AreCounts, CountsMore, CountsOne, HasRoom, UsesRoom, one_if}

-- ONE ACTION MORE

module _ (told : List Action) (a : Action) (old new : Counts) (are : AreCounts told old) (one : CountsOne a old new) where
  one_more : (p : Action → Bool) (before after : ℕ) → before ≡ count_by p told → after ≡ before + one_if (p a) → after ≡ count_by p (told ++ a ∷ [])
  one_more p before after were more = more ∙ ap (λ n. n + one_if (p a)) were ∙ sym (sum_by_push (λ x. one_if (p x)) told a)

  pub counts_one : AreCounts (told ++ a ∷ []) new
  counts_one = record {
    took = one_more is_took old.took new.took are.took one.took;
    sent = one_more is_sent old.sent new.sent are.sent one.sent;
    got = one_more is_got old.got new.got are.got one.got;
    out = one_more is_out old.out new.out are.out one.out;
    end = one_more is_end old.end new.end are.end one.end;
    fault = one_more is_fault old.fault new.fault are.fault one.fault;
  }

-- ROOM

one_at_most : (b : Bool) → one_if b ≤ 1
one_at_most true = omega arith
one_at_most false = omega arith

pub less_room : (counts : Counts) (more less : ℕ) → less ≤ more → HasRoom counts more → HasRoom counts less
less_room counts more less few room = record {
  took = omega (arith, room.took, few);
  sent = omega (arith, room.sent, few);
  got = omega (arith, room.got, few);
  out = omega (arith, room.out, few);
  end = omega (arith, room.end, few);
  fault = omega (arith, room.fault, few);
}

one_used : (a : Action) (old new : Counts) (more : ℕ) → CountsOne a old new → HasRoom old (more + 1) → HasRoom new more
one_used a old new more one room = record {
  took = let few = one_at_most (is_took a) in omega (arith, room.took, one.took, few);
  sent = let few = one_at_most (is_sent a) in omega (arith, room.sent, one.sent, few);
  got = let few = one_at_most (is_got a) in omega (arith, room.got, one.got, few);
  out = let few = one_at_most (is_out a) in omega (arith, room.out, one.out, few);
  end = let few = one_at_most (is_end a) in omega (arith, room.end, one.end, few);
  fault = let few = one_at_most (is_fault a) in omega (arith, room.fault, one.fault, few);
}

pub none_used : (counts : Counts) → UsesRoom 0 counts counts
none_used counts more room = less_room counts (more + 0) more (omega arith) room

pub used_on : (first old new : Counts) (used : ℕ) (a : Action) → UsesRoom used first old → CountsOne a old new → UsesRoom (used + 1) first new
used_on first old new used a uses one more room = one_used a old new more one (uses (more + 1) (less_room first (more + (used + 1)) (more + 1 + used) (omega arith) room))

pub uses_at_most : (old new : Counts) (used most : ℕ) → used ≤ most → UsesRoom used old new → UsesRoom most old new
uses_at_most old new used most few uses more room = uses more (less_room old (more + most) (more + used) (omega (arith, few)) room)

-- ACTIONS ONE AFTER THE OTHER

take_next : {A : Type 0} (xs : List A) (i : ℕ) (x : A) → slice_get xs i ≡ Some x → take (i + 1) xs ≡ take i xs ++ x ∷ []
take_next [] i x there = absurd (false≢true (ap is_some there))
take_next (y ∷ ys) zero x there = ap (λ z. z ∷ []) (let same : y ≡ x = cc in same)
take_next (y ∷ ys) (suc i) x there = ap (λ n. take n (y ∷ ys)) (let same : suc i + 1 ≡ suc (i + 1) = omega arith in same) ∙ ap (λ t. y ∷ t) (take_next ys i x there)

pub more_first : (counts : Counts) → CountsMore counts [] counts
more_first counts told are = subst (λ xs. AreCounts xs counts) (sym (append-nil told)) are

pub more_on : (first old new : Counts) (actions : List Action) (i : ℕ) (a : Action) → slice_get actions i ≡ Some a → CountsMore first (take i actions) old → CountsOne a old new → CountsMore first (take (i + 1) actions) new
more_on first old new actions i a there more one told are =
    subst (λ xs. AreCounts xs new) (append_assoc told (take i actions) (a ∷ []) ∙ ap (λ xs. told ++ xs) (sym (take_next actions i a there)))
    (counts_one (told ++ take i actions) a old new (more told are) one)

-- EVENTS ONE AFTER THE OTHER: there is room for so many events more, each of fewer than 2^64 actions

pub room_first : (counts : Counts) (n : ℕ) → AreCounts [] counts → n < 2 ^ 64 → HasRoom counts ((n - 0) * 2 ^ 64)
room_first counts n are few = record {
  took = omega (arith, are.took, few);
  sent = omega (arith, are.sent, few);
  got = omega (arith, are.got, few);
  out = omega (arith, are.out, few);
  end = omega (arith, are.end, few);
  fault = omega (arith, are.fault, few);
}

pub room_for_next : (counts : Counts) (n events : ℕ) → events < n → HasRoom counts ((n - events) * 2 ^ 64) → HasRoom counts (2 ^ 64)
room_for_next counts n events inside room = less_room counts ((n - events) * 2 ^ 64) (2 ^ 64) (omega (arith, inside)) room

pub room_on : (old new : Counts) (n events : ℕ) → events < n → UsesRoom (2 ^ 64) old new → HasRoom old ((n - events) * 2 ^ 64) → HasRoom new ((n - (events + 1)) * 2 ^ 64)
room_on old new n events inside uses room =
    let left = (n - (events + 1)) * 2 ^ 64 in
    uses left (less_room old ((n - events) * 2 ^ 64) (left + 2 ^ 64) (omega (arith, inside)) room)
