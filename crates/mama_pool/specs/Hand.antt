-- inner: What a share keeps of its deque and tally, and a hand beside its shares.
use Rattle.std.specs.Prelude.{◌≡◌, ℕ, ◌+◌, ◌<◌, ◌≤◌, List, [], length, slice_set}
use Rattle.mama_pool.specs.declared.view.View.{View}
use Rattle.mama_pool.specs.declared.view.Count.{Count}
use Rattle.mama_pool.specs.Steps.{with_known}
use Rattle.mama_pool.specs.Values.{Place, ShareValue, share_in, IsAfterLook}

-- a pass of a deque and one of its tally with these views are a share: each has one of the 65, and what was taken is counted
pub record IsShare (v : View) (c : Count) : Type 0 where
  pub share : v.shares ≡ 1
  pub pushed : v.pushed ≡ []
  pub part : c.shares ≡ 1
  pub pushes : c.pushes ≡ 0
  pub takes : c.takes ≡ length v.took

-- a pass of a tally with this view is a note: it names a number of pushes, and has nothing else
pub record IsNote (c : Count) : Type 0 where
  pub part : c.shares ≡ 0
  pub pushes : c.pushes ≡ 0
  pub takes : c.takes ≡ 0
  pub known : c.known ≡ 0

-- The hand's deque and tally with these views have all shares that no hand has, and the tally counts the pushes. The own share
-- is one in this deque, and has learnt of all pushes.
pub record IsHand (number : ℕ) (place : Place) (home : View) (opener : Count) (shares : List ShareValue) : Type 0 where
  pub numbered : number < length shares
  pub whole : home.shares + length shares ≡ 65
  pub spare : 0 < home.shares
  pub rest : opener.shares ≡ home.shares
  pub took : home.took ≡ []
  pub pushes : opener.pushes ≡ length home.pushed
  pub takes : opener.takes ≡ 0
  pub known : opener.known ≡ 0
  pub learnt_none : opener.learnt ≡ 0
  pub here : (share_in shares number).place ≡ place
  pub learnt : (share_in shares number).learnt ≡ length home.pushed

-- one of some shares looked
pub record HasLookedIn (old : List ShareValue) (at : ℕ) (new : List ShareValue) : Type 0 where
  pub share : ShareValue
  pub same : new ≡ slice_set old at share
  pub look : IsAfterLook (share_in old at) share

-- a view of a tally before and after an empty look
pub record HasCounted (c d : Count) : Type 0 where
  pub taken : ℕ
  pub same : d ≡ with_known c taken
  pub learnt : c.learnt ≤ taken
  pub known : c.known ≤ taken
