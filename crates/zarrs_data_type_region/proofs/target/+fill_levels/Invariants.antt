use Rattle.zarrs_data_type_region.proofs.target.+fill_levels.Given as goal

abbrev pub decreases-fill_levels : goal.decreases-fill_levels
decreases-fill_levels l = l.depth
