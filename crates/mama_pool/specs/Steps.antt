-- inner: What each step does to the view of the pass that makes it.
use Rattle.std.specs.Prelude.{ℕ, ◌+◌, ◌-◌, max, List, [], ◌∷◌, ◌++◌, length, slice_index}
use Rattle.mama_pool.specs.declared.view.View.{View}
use Rattle.mama_pool.specs.declared.view.Count.{Count}
use Rattle.mama_pool.specs.Values.{ShareValue}

-- a deque's view with these shares, which pushed and took this
abbrev pub view_of : ℕ → List ℕ → List ℕ → View
view_of shares pushed took = record { shares = shares; pushed = pushed; took = took }

-- the first view of a deque, of its own hand: all shares, and nothing was pushed or taken
abbrev pub opener : View
opener = view_of 65 [] []

-- a view that makes no more steps
abbrev pub spent : View
spent = view_of 0 [] []

-- split: the own hand has given one share away
abbrev pub without_share : View → View
without_share v = view_of (v.shares - 1) v.pushed v.took

-- split: the share that it gave, which has taken nothing
abbrev pub one_share : View → View
one_share v = view_of 1 [] []

-- push: what was pushed grows
abbrev pub with_push : View → List ℕ → View
with_push v xs = view_of v.shares (v.pushed ++ xs) v.took

-- take: what was taken grows
abbrev pub with_take : View → List ℕ → View
with_take v xs = view_of v.shares v.pushed (v.took ++ xs)

-- join: the own hand has the other's shares, and what it took
abbrev pub joined : View → View → View
joined v w = view_of (v.shares + w.shares) v.pushed (v.took ++ w.took)

-- a tally's view with these shares, which counted so many pushes and takes, and knows and learnt of so many
abbrev pub count_of : ℕ → ℕ → ℕ → ℕ → ℕ → Count
count_of shares pushes takes known learnt = record { shares = shares; pushes = pushes; takes = takes; known = known; learnt = learnt }

-- the first view of a tally: all shares, and nothing was counted
abbrev pub counter : Count
counter = count_of 65 0 0 0 0

-- a view that knows nothing
abbrev pub blank : Count
blank = count_of 0 0 0 0 0

-- split: one share was given away
abbrev pub without_part : Count → Count
without_part v = count_of (v.shares - 1) v.pushes v.takes v.known v.learnt

-- split: the share that was given, which has counted nothing
abbrev pub one_part : Count → Count
one_part v = count_of 1 0 0 0 0

-- count: so many more pushes and takes are counted as the words grew
abbrev pub with_counts : Count → ℕ → ℕ → Count
with_counts v pushes takes = count_of v.shares (v.pushes + pushes) (v.takes + takes) v.known v.learnt

abbrev pub counted : Count → List ℕ → List ℕ → Count
counted v x y = with_counts v (slice_index y 0 - slice_index x 0) (slice_index y 1 - slice_index x 1)

-- empty look: so many of the first pushes are known to be taken
abbrev pub with_known : Count → ℕ → Count
with_known v known = count_of v.shares v.pushes v.takes known v.learnt

-- tell: a note names how many pushes were counted
abbrev pub noted : Count → Count
noted v = count_of 0 0 0 0 v.pushes

-- learn: the view keeps what the note names, if that is more
abbrev pub with_learnt : Count → Count → Count
with_learnt v note = count_of v.shares v.pushes v.takes v.known (max v.learnt note.learnt)

-- join: the view has the other's shares and counts, and of what both know and learnt of the greater
abbrev pub added : Count → Count → Count
added v w = count_of (v.shares + w.shares) (v.pushes + w.pushes) (v.takes + w.takes) (max v.known w.known) (max v.learnt w.learnt)

-- the views of a share
abbrev pub share_view : ShareValue → View
share_view s = view_of 1 [] s.took

abbrev pub share_count : ShareValue → Count
share_count s = count_of 1 0 (length s.took) s.known s.learnt

-- the views of a deque and of its tally after some shares were joined, one after another
abbrev pub joined_all : View → List ShareValue → View
joined_all v [] = v
joined_all v (s ∷ shares) = joined_all (joined v (share_view s)) shares

abbrev pub added_all : Count → List ShareValue → Count
added_all v [] = v
added_all v (s ∷ shares) = added_all (added v (share_count s)) shares
