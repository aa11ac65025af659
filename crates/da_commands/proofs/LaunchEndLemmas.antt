-- The calls of a launch, the ends that they tell, and what was written of these.
use Rattle.std.proofs.Common.{◌≡◌, refl, sym, ◌∙◌, ap, subst, ℕ, zero, suc, ◌+◌, ◌-◌, ◌≤◌, ◌<◌, List, [], ◌∷◌, ◌++◌, drop, take, length, map, replicate, arith, append_assoc, append-nil, length-append}
use Rattle.std.proofs.Math.Seq.{take-append-add, take-append_seam, take-length}
use Rattle.std.specs.Prelude.{Option, Some, None}
use Rattle.da_outside.specs.declared.spawner.Ended.{Ended}
use Rattle.da_outside.specs.declared.spawner.SpawnEntry.{SpawnEntry}
use Rattle.da_outside.specs.declared.spawner.SpawnEntry.TheVariants.{Start, Finish}
use Rattle.da_outside.specs.Outside.{Appends, AppendsPrefix}
use Rattle.da_outside.proofs.OutsideLemmas.{appends_then}
use Rattle.da_commands.specs.Launching.{WroteEnds, WroteLast, child_text, children_text, ends_in, finishes, passed_ends, starts}

-- LISTS

pub map_then : {X Y : Type 0} (f : X → Y) (xs ys : List X) → map f (xs ++ ys) ≡ map f xs ++ map f ys
map_then f [] ys = refl
map_then f (x ∷ xs) ys = ap (λ l. f x ∷ l) (map_then f xs ys)

pub length_map : {X Y : Type 0} (f : X → Y) (xs : List X) → length (map f xs) ≡ length xs
length_map f [] = refl
length_map f (x ∷ xs) = ap (λ n. suc n) (length_map f xs)

pub length_copies : {X : Type 0} (n : ℕ) (x : X) → length (replicate n x) ≡ n
length_copies zero x = refl
length_copies (suc n) x = ap (λ m. suc m) (length_copies n x)

-- CALLS

pub starts_then : (words : ℕ → List (List ℕ)) (k : ℕ) (xs ys : List ℕ) → starts words k (xs ++ ys) ≡ starts words k xs ++ starts words (k + length xs) ys
starts_then words k [] ys = let same : k ≡ k + 0 = omega arith in ap (λ n. starts words n ys) same
starts_then words k (x ∷ xs) ys =
    let next : k + 1 + length xs ≡ k + length (x ∷ xs) = omega arith in
    ap (λ l. Start (words k) (Some x) ∷ l) (starts_then words (k + 1) xs ys ∙ ap (λ n. starts words (k + 1) xs ++ starts words n ys) next)

pub finishes_none : (list : List ℕ) → finishes list [] ≡ []
finishes_none [] = refl
finishes_none (x ∷ xs) = refl

pub finishes_then : (list : List ℕ) (xs ys : List (Option Ended)) → finishes list (xs ++ ys) ≡ finishes list xs ++ finishes (drop (length xs) list) ys
finishes_then [] [] ys = refl
finishes_then [] (x ∷ xs) ys = refl
finishes_then (child ∷ list) [] ys = refl
finishes_then (child ∷ list) (x ∷ xs) ys = ap (λ l. Finish child x ∷ l) (finishes_then list xs ys)

-- TEXTS

pub text_then : (k : ℕ) (xs ys : List Ended) → children_text k (xs ++ ys) ≡ children_text k xs ++ children_text (k + length xs) ys
text_then k [] ys = let same : k ≡ k + 0 = omega arith in ap (λ n. children_text n ys) same
text_then k (x ∷ xs) ys =
    let next : k + 1 + length xs ≡ k + length (x ∷ xs) = omega arith in
    ap (λ l. child_text k x ++ l) (text_then (k + 1) xs ys) ∙ sym (append_assoc (child_text k x) (children_text (k + 1) xs) (children_text (k + 1 + length xs) ys))
    ∙ ap (λ n. child_text k x ++ children_text (k + 1) xs ++ children_text n ys) next

-- one more child
pub text_more : (k : ℕ) (xs : List Ended) (x : Ended) → children_text k (xs ++ x ∷ []) ≡ children_text k xs ++ child_text (k + length xs) x
text_more k xs x = text_then k xs (x ∷ []) ∙ ap (λ l. children_text k xs ++ l) (append-nil (child_text (k + length xs) x))

-- THE ENDS THAT WERE TOLD

more_than : (xs ys zs : List ℕ) → length ys ≤ length zs → length (xs ++ ys) ≤ length (xs ++ zs)
more_than xs ys zs less = omega (arith, less, length-append xs ys, length-append xs zs)

-- the first calls have no more text than all of them
ends_take : (n k : ℕ) (calls : List SpawnEntry) → length (children_text k (ends_in (take n calls))) ≤ length (children_text k (ends_in calls))
ends_take zero k calls = omega arith
ends_take (suc n) k [] = omega arith
ends_take (suc n) k (Start words (Some child) ∷ calls) = ends_take n k calls
ends_take (suc n) k (Start words None ∷ calls) = omega arith
ends_take (suc n) k (Finish child (Some end) ∷ calls) = more_than (child_text k end) (children_text (k + 1) (ends_in (take n calls))) (children_text (k + 1) (ends_in calls)) (ends_take n (k + 1) calls)
ends_take (suc n) k (Finish child None ∷ calls) = omega arith

-- what is told before the last call
pub passed_more : (calls : List SpawnEntry) (call : SpawnEntry) → passed_ends (calls ++ call ∷ []) ≡ ends_in calls
passed_more calls call =
    let size : length (calls ++ call ∷ []) - 1 ≡ length calls = omega (arith, length-append calls (call ∷ [])) in
    ap (λ n. ends_in (take n (calls ++ call ∷ []))) size ∙ ap ends_in (take-append_seam calls (call ∷ []))

-- children that are started tell no end
passed_start : (words : List (List ℕ)) (child : ℕ) (calls : List SpawnEntry) → passed_ends (Start words (Some child) ∷ calls) ≡ passed_ends calls
passed_start words child [] = refl
passed_start words child (call ∷ calls) =
    let size : length (Start words (Some child) ∷ call ∷ calls) - 1 ≡ suc (length (call ∷ calls) - 1) = omega arith in
    ap (λ n. ends_in (take n (Start words (Some child) ∷ call ∷ calls))) size

module _ (words : ℕ → List (List ℕ)) where
  pub ends_started : (k : ℕ) (children : List ℕ) (calls : List SpawnEntry) → ends_in (starts words k children ++ calls) ≡ ends_in calls
  ends_started k [] calls = refl
  ends_started k (child ∷ children) calls = ends_started (k + 1) children calls

  passed_started : (k : ℕ) (children : List ℕ) (calls : List SpawnEntry) → passed_ends (starts words k children ++ calls) ≡ passed_ends calls
  passed_started k [] calls = refl
  passed_started k (child ∷ children) calls = passed_start (words k) child (starts words (k + 1) children ++ calls) ∙ passed_started (k + 1) children calls

  pub none_started : (k : ℕ) (children : List ℕ) → ends_in (starts words k children) ≡ []
  none_started k [] = refl
  none_started k (child ∷ children) = none_started (k + 1) children

-- children that were finished tell their ends
pub ends_finished : (list : List ℕ) (ends : List Ended) → length ends ≤ length list → ends_in (finishes list (map Some ends)) ≡ ends
ends_finished list [] few = ap ends_in (finishes_none list)
ends_finished [] (end ∷ ends) few = absurd (omega (arith, few))
ends_finished (child ∷ list) (end ∷ ends) few = ap (λ l. end ∷ l) (ends_finished list ends (omega (arith, few)))

-- up to one that failed
pub ends_failed : (list : List ℕ) (ends : List Ended) (others : List (Option Ended)) → length ends < length list → ends_in (finishes list (map Some ends ++ None ∷ others)) ≡ ends
ends_failed [] ends others few = absurd (omega (arith, few))
ends_failed (child ∷ list) [] others few = refl
ends_failed (child ∷ list) (end ∷ ends) others few = ap (λ l. end ∷ l) (ends_failed list ends others (omega (arith, few)))

-- WHAT WAS WRITTEN OF THEM

whole_taken : (a b : Option (List ℕ)) (bytes : List ℕ) → Appends a b bytes → Appends a b (take (length bytes) bytes)
whole_taken a b bytes written = rw (take-length bytes) written

part_taken : (a b c : Option (List ℕ)) (xs ys : List ℕ) (n : ℕ) → Appends a b xs → Appends b c (take n ys) → Appends a c (take (length xs + n) (xs ++ ys))
part_taken a b c xs ys n first next = rw (take-append-add xs ys n) (appends_then a b c xs (take n ys) first next)

-- all of it
pub wrote_whole : (calls : List SpawnEntry) (ends : List Ended) (before after : Option (List ℕ)) → ends_in calls ≡ ends → Appends before after (children_text 1 ends) → WroteEnds calls before after
wrote_whole calls ends before after are written = record {
  size = length (children_text 1 (ends_in calls));
  written = whole_taken before after (children_text 1 (ends_in calls)) (subst (λ e. Appends before after (children_text 1 e)) (sym are) written);
  reaches = ends_take (length calls - 1) 1 calls;
}

-- all of it but for the last one, and a prefix of that
pub wrote_part : (calls : List SpawnEntry) (ends : List Ended) (end : Ended) (place : ℕ) (before now after : Option (List ℕ)) → ends_in calls ≡ ends ++ end ∷ [] → passed_ends calls ≡ ends → place ≡ 1 + length ends
    → Appends before now (children_text 1 ends) → AppendsPrefix now after (child_text place end) → WroteLast calls before after
wrote_part calls ends end place before now after are passed place_is first (n, next) =
    let text : children_text 1 (ends_in calls) ≡ children_text 1 ends ++ child_text place end =
    ap (children_text 1) are ∙ text_more 1 ends end ∙ ap (λ p. children_text 1 ends ++ child_text p end) (sym place_is) in
    let within : length (children_text 1 ends) ≤ length (children_text 1 ends) + n = omega arith in
    record {
      front = record {
        size = length (children_text 1 ends) + n;
        written = subst (λ t. Appends before after (take (length (children_text 1 ends) + n) t)) (sym text) (part_taken before now after (children_text 1 ends) (child_text place end) n first next);
        reaches = subst (λ e. length (children_text 1 e) ≤ length (children_text 1 ends) + n) (sym passed) within;
      };
      end = end;
      stops = are ∙ ap (λ e. e ++ end ∷ []) (sym passed);
    }

-- the same after children were started
module _ (words : ℕ → List (List ℕ)) (k : ℕ) (children : List ℕ) (calls : List SpawnEntry) (before after : Option (List ℕ)) where
  pub wrote_started : WroteEnds calls before after → WroteEnds (starts words k children ++ calls) before after
  wrote_started wrote = record {
    size = wrote.size;
    written = subst (λ e. Appends before after (take wrote.size (children_text 1 e))) (sym (ends_started words k children calls)) wrote.written;
    reaches = subst (λ e. length (children_text 1 e) ≤ wrote.size) (sym (passed_started words k children calls)) wrote.reaches;
  }

  pub last_started : WroteLast calls before after → WroteLast (starts words k children ++ calls) before after
  last_started wrote = record {
    front = wrote_started wrote.front;
    end = wrote.end;
    stops = ends_started words k children calls ∙ wrote.stops ∙ ap (λ e. e ++ wrote.end ∷ []) (sym (passed_started words k children calls));
  }
