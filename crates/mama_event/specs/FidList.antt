-- believed: which lists of fids can be asked for.
use Rattle.std.specs.Prelude.{ℕ, Bool, true, ◌&&◌, nat_le, nat_lt, List, [], ◌∷◌, length}

-- each number is above the one before it, and the first above a bound
abbrev pub is_ascending_above : ℕ → List ℕ → Bool
is_ascending_above bound [] = true
is_ascending_above bound (f ∷ fs) = nat_lt bound f && is_ascending_above f fs

-- 1 to 8 fids, strictly ascending and each above 0
abbrev pub is_fid_list : List ℕ → Bool
is_fid_list fids = nat_le 1 (length fids) && nat_le (length fids) 8 && is_ascending_above 0 fids
