use Rattle.zarrs_engine.proofs.engine.region_lists.+under_masks.Given as goal

abbrev pub decreases-under_masks : goal.decreases-under_masks
decreases-under_masks l = l.depth
