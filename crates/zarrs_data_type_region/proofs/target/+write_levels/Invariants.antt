use Rattle.zarrs_data_type_region.proofs.target.+write_levels.Given as goal

abbrev pub decreases-write_levels : goal.decreases-write_levels
decreases-write_levels l = l.depth
