-- Sources and sinks: what a call does to what they tell, and when it may fail.
use Rattle.std.specs.Prelude.{◌≡◌, ℕ, ◌+◌, ◌-◌, ◌^◌, ◌<◌, ◌≤◌, min, List, ◌++◌, ⊤, length, take, drop, Option, Some, None}
use Rattle.std.specs.Option.{option_map}

-- a count rose, or it stands at the greatest value of a u64
abbrev pub Rose : ℕ → ℕ → Type 0
Rose before now = min (before + 1) (2 ^ 64 - 1) ≤ now

-- A count tells of a fault: it does not fall, the fault comes only where it rose, and it rises only with the fault.
pub record HasCause (before now : ℕ) (fault : Type 0) : Type 0 where
  pub later : before ≤ now
  pub failed : fault → Rose before now
  pub rises : before < now → fault

-- a piece of n bytes that begins at a place: the buffer begins with it, and it is empty only at the end or for want of room
pub record ReadsFrom (bytes : List ℕ) (at n : ℕ) (buf : List ℕ) : Type 0 where
  pub read : take n buf ≡ take n (drop at bytes)
  pub within : n ≤ length (drop at bytes)
  pub some : 0 < length buf → 0 < length (drop at bytes) → 0 < n

abbrev pub ReadsTold : Option (List ℕ) → ℕ → ℕ → List ℕ → Type 0
ReadsTold None at n buf = ⊤
ReadsTold (Some bytes) at n buf = ReadsFrom bytes at n buf

-- the content has these bytes more
abbrev pub Appends : Option (List ℕ) → Option (List ℕ) → List ℕ → Type 0
Appends old new bytes = new ≡ option_map (λ told. told ++ bytes) old

-- the content has a prefix of these bytes more: none, all, or so many
abbrev pub AppendsPrefix : Option (List ℕ) → Option (List ℕ) → List ℕ → Type 0
AppendsPrefix old new bytes = (n : ℕ) × Appends old new (take n bytes)

-- the text is the content, where that is told
abbrev pub Fits : Option (List ℕ) → List ℕ → Type 0
Fits None text = ⊤
Fits (Some told) text = text ≡ told

-- the bytes of the content, or one more than the limit where there are more; never more than that
abbrev pub IsWhole : Option (List ℕ) → ℕ → List ℕ → Type 0
IsWhole None limit text = length text ≤ limit + 1
IsWhole (Some bytes) limit text = text ≡ take (limit + 1) bytes

-- the text is a prefix of the content
abbrev pub HasPrefix : Option (List ℕ) → List ℕ → Type 0
HasPrefix None text = ⊤
HasPrefix (Some bytes) text = text ≡ take (length text) bytes

-- the content has no byte from there on
abbrev pub EndsAt : Option (List ℕ) → ℕ → Type 0
EndsAt None at = ⊤
EndsAt (Some bytes) at = length bytes ≤ at
