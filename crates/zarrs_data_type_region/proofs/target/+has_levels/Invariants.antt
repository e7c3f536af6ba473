use Rattle.zarrs_data_type_region.proofs.target.+has_levels.Given as goal

abbrev pub decreases-has_levels : goal.decreases-has_levels
decreases-has_levels l = l.depth
