-- inner: the fids of a question, as they lie in the value and as contracts see them.
use Rattle.std.specs.Prelude.{◌≡◌, ℕ, true, ◌-◌, ◌==◌, List, [], ◌∷◌, ◌++◌, length, replicate, if◌then◌else◌}
use Rattle.std.proofs.Common.{ap}
use Rattle.mama_event.specs.FidList.{is_fid_list}
use Rattle.mama_event.specs.declared.fids.Fids.TheInside.{Inside}

-- the numbers before the first 0
abbrev pub before_zero : List ℕ → List ℕ
before_zero [] = []
before_zero (f ∷ fs) = if f == 0 then [] else f ∷ before_zero fs

-- the fids in order: those before the first 0
abbrev pub list_of : Inside → List ℕ
list_of f = before_zero f.fids

-- the list, filled up with zeros
abbrev pub filled : List ℕ → List ℕ
filled fids = fids ++ replicate (8 - length fids) 0

-- the fids can be asked for; what is past them is zero, so that equal lists are equal values
pub record AreFids (f : Inside) : Type 0 where
  pub form : is_fid_list (list_of f) ≡ true
  pub size : length f.fids ≡ 8
  pub rest : filled (list_of f) ≡ f.fids

abbrev pub inside_of : List ℕ → Inside
inside_of fids = record { fids = filled fids }

pub inside_of-list_of : (f : Inside) → AreFids f → inside_of (list_of f) ≡ f
inside_of-list_of f fits = ap (λ (xs : List ℕ). record { fids = xs }) fits.rest
