pub mod Scan
pub mod NodeTiles
pub mod NodesInRegion
pub mod NodeWords
pub mod Blocks
