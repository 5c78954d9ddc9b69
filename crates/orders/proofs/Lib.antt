-- the bits of masks
pub mod MaskBits
-- masks that are gathered one element after the other
pub mod Folds
-- arrays that are made place by place
pub mod Making
-- tables of masks
pub mod Tables
-- which orders are strict
pub mod Strictness
