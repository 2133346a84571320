use Rattle.fm_world.proofs.layers.Layers.+put_below.Given as goal

abbrev pub decreases-put_below : goal.decreases-put_below
decreases-put_below l = l.level
