use Rattle.bench_close.proofs.+nothing.Given as goal

-- each call of itself is with one less
abbrev pub decreases-nothing : goal.decreases-nothing
decreases-nothing l = l.more
